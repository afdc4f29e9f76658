use Rattle.std.proofs.Common.{◌≡◌, ◌+◌, ◌≤◌, ℕ, suc, Option, subst, arith}
use Rattle.ob_base.specs.Limits.{max_tree_depth}
use Rattle.ob_base.specs.declared.id.RecId.{RecId}
use Rattle.ob_change.specs.TreeRows.{IsTheParent, IsUp}
use Rattle.ob_change.proofs.TreeSteps.{none_far, steps-deeper, steps-next}
use Rattle.ob_change.proofs.trees.depth_of.Goals as goal

pub loop-above-preserved : goal.loop-above-preserved
loop-above-preserved c =
    let models = c.args.tables.now.models in
    let tables = c.args.tables.now.tables in
    let up = subst (λ (o : Option RecId). IsTheParent models tables (record c.args.cell { id = c.loop-above.at }) o) c.in-Some.is c.in_ok-parent.ensures in
    let next : suc c.loop-above.above ≡ c.loop-above.above + 1 = omega arith in
    subst (λ (n : ℕ). IsUp models tables c.args.cell.model c.args.cell.field n c.args.cell.id c.in-Some.parent) next
    (steps-next models tables c.args.cell.model c.args.cell.field c.loop-above.above c.args.cell.id c.loop-above.at c.in-Some.parent c.loop-above.invariant up)

pub returns-in-None : goal.returns-in-None
returns-in-None c =
    let models = c.args.tables.now.models in
    let tables = c.args.tables.now.tables in
    let root = subst (λ (o : Option RecId). IsTheParent models tables (record c.args.cell { id = c.loop-above.at }) o) c.in-None.is c.in_ok-parent.ensures in (
      steps-deeper models tables c.args.cell.model c.args.cell.field c.loop-above.above 1 c.args.cell.id c.loop-above.at root c.loop-above.invariant,
      omega arith,
    )

pub returns : goal.returns
returns c =
    let far : max_tree_depth ≤ c.loop-above.above = c.loop-above-test.false in
    λ sound. none_far c.args.tables.now.models c.args.tables.now.tables c.args.cell.model c.args.cell.field c.requires sound c.fit_together.ensures.fits c.loop-above.above c.args.cell.id c.loop-above.at far
    c.loop-above.invariant
