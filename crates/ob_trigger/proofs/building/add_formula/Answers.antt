-- One path more.
use Rattle.std.proofs.Common.{◌≡◌, ◌≤◌, List, length, subst}
use Rattle.ob_schema.specs.declared.info.Path.{Path}
use Rattle.ob_schema.specs.declared.info.Step.{Step}
use Rattle.ob_trigger.specs.Readers.{AddsReaders, IsStepBehind}
use Rattle.ob_trigger.proofs.Indexing.{OfPaths, adds-as, adds-none, adds-then, paths-all, paths-more, paths-none}
use Rattle.ob_trigger.proofs.building.add_formula.Goals as goal

pub loop-path-init : goal.loop-path-init
loop-path-init c = record { added = adds-none c.args.index.now (OfPaths c.args.computed c.as_slice-path-items.result.now 0) (paths-none c.args.computed c.as_slice-path-items.result.now); items = c.as_slice-path-items.ensures }

pub loop-path-preserved : goal.loop-path-preserved
loop-path-preserved c =
    let path = c.path-item.result in
    let added = subst (λ (l : List Step). AddsReaders c.loop-path.index c.add_path.new.index (λ step r. (r.computed ≡ c.args.computed) × IsStepBehind l r.front step)) c.as_slice.ensures c.in_ok-add_path.ensures in
    record {
      added = adds-as c.args.index.now c.add_path.new.index _ _ (adds-then c.args.index.now c.loop-path.index c.add_path.new.index _ _ c.loop-path.invariant.added added)
          (paths-more c.args.computed c.as_slice-path-items.result.now c.loop-path.path-index path c.loop-path-test.true c.path-item.is);
      items = c.loop-path.invariant.items;
    }

pub returns : goal.returns
returns c =
    let added = subst (λ (l : List Path). AddsReaders c.args.index.now c.loop-path.index (OfPaths c.args.computed l c.loop-path.path-index)) c.loop-path.invariant.items c.loop-path.invariant.added in
    let all = subst (λ (l : List Path). length l ≤ c.loop-path.path-index) c.loop-path.invariant.items c.loop-path-test.false in
    adds-as c.args.index.now c.loop-path.index _ _ added (paths-all c.args.computed c.args.formula.now c.loop-path.path-index all)
