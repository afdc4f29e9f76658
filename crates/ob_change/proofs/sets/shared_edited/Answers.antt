-- One cell more at which no set is shared, or one at which one is.
use Rattle.ob_base.specs.declared.id.FieldNo.{FieldNo}
use Rattle.ob_change.specs.Changing.{models_of, sides_of}
use Rattle.ob_change.specs.Testing.{SharesAt}
use Rattle.ob_change.proofs.EditedSets.{at-place, edited-at}
use Rattle.ob_change.proofs.Turns.{none-end, none-more, none-told, one-told}
use Rattle.ob_change.proofs.sets.shared_edited.Goals as goal

pub returns-in-Some : goal.returns-in-Some
returns-in-Some c =
    let models = models_of c.args.change in
    let sides = sides_of c.args.change in
    at-place models sides c.args.cells.now c.requires c.loop-cell.cell-index _ c.in-Some.field c.loop-cell-test.true
    (one-told (SharesAt models sides.behind _) _ c.in-Some.field c.in-Some.is c.in_ok-field.ensures)

pub loop-cell-preserved : goal.loop-cell-preserved
loop-cell-preserved c =
    let models = models_of c.args.change in
    let sides = sides_of c.args.change in
    none-more (λ cell. (first : FieldNo) × SharesAt models sides.behind cell first) c.args.cells.now c.loop-cell.cell-index _ c.loop-cell-test.true c.loop-cell.invariant
    (λ shares. none-told (SharesAt models sides.behind _) _ c.in_default.is c.in_ok-field.ensures shares.0 shares.1)

pub returns : goal.returns
returns c =
    let models = models_of c.args.change in
    let sides = sides_of c.args.change in
    λ cell shared. none-end (λ cell. (first : FieldNo) × SharesAt models sides.behind cell first) c.args.cells.now c.loop-cell.cell-index c.loop-cell-test.false c.loop-cell.invariant
    (edited-at models sides c.args.cells.now c.requires cell shared)
