-- One cell more, and all cells of the row.
use Rattle.std.proofs.Common.{◌≡◌, ℕ, arith, subst}
use Rattle.ob_base.specs.declared.id.Cell.{Cell}
use Rattle.ob_change.proofs.CellSteps.{EditsAt, row-edited}
use Rattle.ob_change.proofs.Gaining.{Below, gains_more}
use Rattle.ob_change.proofs.edited.add_row.Goals as goal
use Rattle.ob_change.specs.Changing.{models_of, sides_of}
use Rattle.ob_change.specs.EditedSteps.{CellEdits, Gains}

pub loop-place-preserved : goal.loop-place-preserved
loop-place-preserved c =
    let models = models_of c.args.change in
    let sides = sides_of c.args.change in
    gains_more (EditsAt models sides c.args.key) c.loop-place.place c.args.cells.now.items c.loop-place.cells.items c.add_field.new.cells.items c.loop-place.invariant
    (subst (λ (own : Cell). Gains (CellEdits models sides own) c.loop-place.cells.items c.add_field.new.cells.items) c.cell_in-own.ensures c.in_ok-add_field.ensures)

pub returns : goal.returns
returns c =
    let at = EditsAt (models_of c.args.change) (sides_of c.args.change) c.args.key in
    let all : c.loop-place.place ≡ c.given_count-count.result = omega (arith, c.loop-place-test.false, c.loop-place.auto.place-end) in
    row-edited (models_of c.args.change) (sides_of c.args.change) c.args.key c.given_count-count.result c.given_count-count.ensures c.args.cells.now.items c.loop-place.cells.items
    (subst (λ (n : ℕ). Gains (Below at n) c.args.cells.now.items c.loop-place.cells.items) all c.loop-place.invariant)
