use Rattle.std.proofs.Common.{List, suc, sym, subst, ◌∙◌, arith, vec_len}
use Rattle.ob_base.specs.declared.id.RecId.{RecId}
use Rattle.ob_change.specs.TreeRows.{AreChildren}
use Rattle.ob_change.proofs.ParentFields.{ParentField-at}
use Rattle.ob_change.proofs.TreeLevels.{IsLevel, level-first, level-next, no_item, some_item}
use Rattle.ob_change.proofs.TreeSteps.{depth-none_sinks, none_below}
use Rattle.ob_change.proofs.trees.none_sinks.Goals as goal

pub loop-below-init : goal.loop-below-init
loop-below-init c =
    let models = c.args.tables.now.models in
    let tables = c.args.tables.now.tables in
    (0, omega arith, subst (λ (l : List RecId). IsLevel models tables c.args.cell.model c.args.cell.field c.args.cell.id 0 l) (sym c.in_ok-level.ensures.items) (level-first models tables c.args.cell.model c.args.cell.field c.args.cell.id))

pub loop-below-preserved : goal.loop-below-preserved
loop-below-preserved c =
    let models = c.args.tables.now.models in
    let tables = c.args.tables.now.tables in
    let field = ParentField-at models c.fit_together.ensures.registry c.args.cell.model c.args.cell.field c.requires.field in
    let children = c.in_ok-level-2.level.items in
    let are = subst (λ (l : List RecId). AreChildren models tables c.args.cell.model c.args.cell.field l children) c.as_slice.ensures.value c.in_ok-level-2.ensures in
    let before = c.loop-below.invariant in (
      suc before.0,
      omega (arith, before.1),
      level-next models tables c.args.cell.model c.args.cell.field field c.fit_together.ensures.fits c.args.cell.id before.0 c.loop-below.level.items children c.requires.row before.2 are,
    )

pub returns-clause-pass : goal.returns-clause-pass
returns-clause-pass c =
    let models = c.args.tables.now.models in
    let tables = c.args.tables.now.tables in
    let cell = c.args.cell in
    let level = c.loop-below.level in
    let (n, is, rows) = c.loop-below.invariant in
    λ empty.
    depth-none_sinks models tables cell.model cell.field (c.depths_add.ensures.once models tables cell.model cell.field) c.args.depth n cell.id c.requires.depth (omega (arith, is))
    (λ id on. no_item level.items (vec_len level) level.ok.0 (sym c.is_empty.ensures ∙ empty) id ((rows id).1 on))

pub returns-clause-fail : goal.returns-clause-fail
returns-clause-fail c =
    let models = c.args.tables.now.models in
    let tables = c.args.tables.now.tables in
    let cell = c.args.cell in
    let level = c.loop-below.level in
    let (n, is, rows) = c.loop-below.invariant in
    λ full sound.
    let one = some_item level.items (vec_len level) level.ok.0 (sym c.is_empty.ensures ∙ full) in
    none_below models tables cell.model cell.field c.requires.field sound n c.args.depth one.0 cell.id c.requires.row c.requires.depth (omega (arith, is)) ((rows one.0).0 one.1)
