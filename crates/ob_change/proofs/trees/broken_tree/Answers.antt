-- Where a tree doesn't stand as it must something is broken.
use Rattle.std.proofs.Common.{List, subst}
use Rattle.std.specs.Prelude.{IfOk}
use Rattle.ob_schema.specs.declared.info.ModelInfo.{ModelInfo}
use Rattle.ob_tables.specs.Applying.{IsFirstOrSound}
use Rattle.ob_change.specs.Changing.{TellsBroken, models_of, sides_of}
use Rattle.ob_change.specs.TreeRows.{TreesPass}
use Rattle.ob_change.proofs.TreeEdits.{first-told, ok_on}
use Rattle.ob_change.proofs.trees.broken_tree.Goals as goal

pub returns : goal.returns
returns c =
    let models = models_of c.args.change in
    let sides = sides_of c.args.change in
    let first = subst (λ (m : List ModelInfo). IfOk c.broken.result (IsFirstOrSound m sides.behind)) c.args.change.behind_over c.broken.ensures in
    ok_on c.broken.result (IsFirstOrSound models sides.behind) (TellsBroken models sides.behind (TreesPass models sides))
    (first-told models sides.behind (TreesPass models sides) (c.in_ok-trees_pass.ensures.fail c.if-branch.false)) first
