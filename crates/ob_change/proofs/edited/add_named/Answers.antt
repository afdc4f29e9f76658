-- One field more, and all of them.
use Rattle.std.proofs.Common.{◌≡◌, ◌∙◌, ℕ, List, arith, false, subst, sym, true}
use Rattle.ob_base.specs.declared.id.Cell.{Cell}
use Rattle.ob_change.proofs.CellSteps.{ListsAt, field_of, rows-listed}
use Rattle.ob_change.proofs.Gaining.{Below, gains_as, gains_more, gains_none}
use Rattle.ob_change.proofs.edited.add_named.Goals as goal
use Rattle.ob_change.proofs.edited.add_named.Goals.{then-is_list_by+in_ok-add_cells, else-is_list_by}
use Rattle.ob_change.specs.Changing.{models_of, sides_of}
use Rattle.ob_change.specs.EditedSteps.{Gains, IsCellOf}

pub loop-place-preserved : goal.loop-place-preserved
loop-place-preserved c =
    let sides = sides_of c.args.change in
    let at = ListsAt (models_of c.args.change) sides c.args.own c.args.target c.args.ids.now in
    let place = c.loop-place.place in
    let old = c.loop-place.cells.items in
    gains_more at place c.args.cells.now.items old c.if-is_list_by.cells.items c.loop-place.invariant (elim c.if-is_list_by.branch [
      | then-is_list_by+in_ok-add_cells w ↦ (
          let moved : w.add_cells.new.cells.items ≡ c.if-is_list_by.cells.items = sym (λ k. (w.cells-is k).items) in
          gains_as (IsCellOf sides c.args.target (field_of place) c.args.ids.now) (at place) old c.if-is_list_by.cells.items (λ cell is. (c.is_list_by.ensures.0 w.if-is_list_by.true, is)) (λ cell is. is.1)
          (subst (λ (l : List Cell). Gains (IsCellOf sides c.args.target (field_of place) c.args.ids.now) old l) moved w.in_ok-add_cells.ensures)
          )
      | else-is_list_by w ↦ (
          let moved : old ≡ c.if-is_list_by.cells.items = sym (λ k. (w.cells-is k).items) in
          subst (λ (l : List Cell). Gains (at place) old l) moved (gains_none (at place) old (λ cell is.
          let both : true ≡ false = sym (c.is_list_by.ensures.1 is.0) ∙ w.if-is_list_by.false in absurd cc))
          )
    ])

pub returns : goal.returns
returns c =
    let at = ListsAt (models_of c.args.change) (sides_of c.args.change) c.args.own c.args.target c.args.ids.now in
    let all : c.loop-place.place ≡ c.given_count-count.result = omega (arith, c.loop-place-test.false, c.loop-place.auto.place-end) in
    rows-listed (models_of c.args.change) (sides_of c.args.change) c.args.own c.args.target c.args.ids.now c.given_count-count.result c.given_count-count.ensures c.args.cells.now.items c.loop-place.cells.items
    (subst (λ (n : ℕ). Gains (Below at n) c.args.cells.now.items c.loop-place.cells.items) all c.loop-place.invariant)
