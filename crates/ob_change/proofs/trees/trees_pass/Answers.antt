use Rattle.std.proofs.Common.{List, subst, get_or}
use Rattle.std.proofs.lemmas.List.{take_all}
use Rattle.ob_base.specs.declared.id.Cell.{Cell}
use Rattle.ob_schema.specs.declared.info.ModelInfo.{ModelInfo}
use Rattle.ob_change.specs.Changing.{models_of, sides_of}
use Rattle.ob_change.specs.TreeRows.{StandsWell}
use Rattle.ob_trigger.specs.Affected.{Edited}
use Rattle.ob_change.proofs.TreeEdits.{StandAll, none-circled, none-sunk, stand-more, stand-none}
use Rattle.ob_change.proofs.trees.trees_pass.Goals as goal
use Rattle.ob_change.proofs.trees.trees_pass.Goals.{else-is_in_tree-via-then-is_in_tree+in_ok-row_passes+else-not-branch, else-is_in_tree-via-else-is_in_tree}

pub loop-cell-init : goal.loop-cell-init
loop-cell-init c = stand-none (models_of c.args.change) (sides_of c.args.change)

pub loop-cell-preserved : goal.loop-cell-preserved
loop-cell-preserved c =
    let cells = c.args.cells.now in
    let i = c.loop-cell.cell-index in
    let none : Cell = record { model = record { 0 = 0 }; id = record { 0 = 0 }; field = record { 0 = 0 } } in
    stand-more (models_of c.args.change) (sides_of c.args.change) cells i none c.loop-cell-test.true c.loop-cell.invariant
    (λ tree. elim c.else-is_in_tree.branch [
      | else-is_in_tree-via-then-is_in_tree+in_ok-row_passes+else-not-branch w ↦ subst (λ (models : List ModelInfo). StandsWell models c.args.change.behind.now.tables (get_or cells i none)) c.args.change.behind_over
          (w.in_ok-row_passes.ensures.pass w.if-not-branch.false)
      | else-is_in_tree-via-else-is_in_tree w ↦ absurd (let is = c.is_in_tree.ensures.1 tree in let not = w.if-is_in_tree.false in cc)
    ])

pub returns-clause-pass : goal.returns-clause-pass
returns-clause-pass c =
    let models = models_of c.args.change in
    let sides = sides_of c.args.change in
    let all = subst (λ (cells : List Cell). StandAll models sides cells) (take_all c.loop-cell.cell-index c.args.cells.now c.loop-cell-test.false) c.loop-cell.invariant in
    let stands = λ (cell : Cell) (edited : Edited models sides cell). all cell ((c.requires cell).1 edited) in
    λ _. record { circles = none-circled models sides stands; depths = none-sunk models sides stands }
