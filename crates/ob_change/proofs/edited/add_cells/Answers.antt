-- One row more, and all of them.
use Rattle.std.proofs.Common.{◌≡◌, ◌∙◌, List, false, get_or, subst, sym, true}
use Rattle.std.proofs.lemmas.List.{take_all}
use Rattle.ob_base.specs.declared.id.Cell.{Cell}
use Rattle.ob_base.specs.declared.id.RecId.{RecId}
use Rattle.ob_change.proofs.CellSteps.{CellAt, cells-of}
use Rattle.ob_change.proofs.Gaining.{BySome, gains_as, gains_next, gains_none, gains_pushed}
use Rattle.ob_change.proofs.edited.add_cells.Goals as goal
use Rattle.ob_change.proofs.edited.add_cells.Goals.{then-has_row+in_ok-push, else-has_row}
use Rattle.ob_change.specs.Changing.{sides_of}
use Rattle.ob_change.specs.EditedSteps.{Gains}

pub loop-id-preserved : goal.loop-id-preserved
loop-id-preserved c =
    let none : RecId = record { 0 = 0 } in
    let ids = c.args.ids.now in
    let id : RecId = get_or ids c.loop-id.id-index none in
    let at = CellAt (sides_of c.args.change) c.args.model c.args.field in
    let old = c.loop-id.cells.items in
    gains_next at ids c.loop-id.id-index none c.args.cells.now.items old c.if-has_row.cells.items c.loop-id-test.true c.loop-id.invariant (elim c.if-has_row.branch [
      | then-has_row+in_ok-push w ↦ (
          let moved : c.if-has_row.cells.items ≡ w.push.new.self.items = λ k. (w.cells-is k).items in
          let one = w.cell_in.result in
          gains_as (λ cell. cell ≡ one) (at id) old c.if-has_row.cells.items
          (λ cell is. (is ∙ w.cell_in.ensures, sym c.has_row.ensures ∙ w.if-has_row.true)) (λ cell is. is.0 ∙ sym w.cell_in.ensures)
          (gains_pushed old c.if-has_row.cells.items one (moved ∙ w.in_ok-push.ensures.items))
          )
      | else-has_row w ↦ (
          let moved : old ≡ c.if-has_row.cells.items = sym (λ k. (w.cells-is k).items) in
          subst (λ (l : List Cell). Gains (at id) old l) moved (gains_none (at id) old (λ cell is.
          let both : true ≡ false = sym is.1 ∙ sym c.has_row.ensures ∙ w.if-has_row.false in absurd cc))
          )
    ])

pub returns : goal.returns
returns c =
    let at = CellAt (sides_of c.args.change) c.args.model c.args.field in
    cells-of (sides_of c.args.change) c.args.model c.args.field c.args.ids.now c.args.cells.now.items c.loop-id.cells.items
    (subst (λ (l : List RecId). Gains (BySome at l) c.args.cells.now.items c.loop-id.cells.items) (take_all c.loop-id.id-index c.args.ids.now c.loop-id-test.false) c.loop-id.invariant)
