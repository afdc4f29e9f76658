-- One row more.
use Rattle.std.proofs.Common.{refl, ◌∙◌}
use Rattle.std.proofs.lemmas.List.{take_all}
use Rattle.std.proofs.lemmas.Result.{err_from_is_err_and}
use Rattle.ob_schema.specs.Facts.{asked-then}
use Rattle.ob_domain.proofs.Along.{known_more}
use Rattle.ob_domain.proofs.Asking.{fault_behind}
use Rattle.ob_domain.proofs.holding.add_targets.Goals as goal

pub loop-id-preserved : goal.loop-id-preserved
loop-id-preserved g c = record {
  told = λ told tells test. known_more told c.args.link.target test c.deref-id-items.result.now c.loop-id.id-index _ _ _ _
      c.loop-id-test.true (c.in_ok-add_known.ensures.told told (c.loop-id.invariant.kept told tells) test) (c.loop-id.invariant.told told tells test);
  items = c.loop-id.invariant.items;
  known = λ told tells all. c.in_ok-add_known.ensures.known told (c.loop-id.invariant.kept told tells) (c.loop-id.invariant.known told tells all);
  asked = asked-then _ _ _ c.loop-id.invariant.asked c.add_known.ensures.asked;
  same = c.add_known.ensures.same ∙ c.loop-id.invariant.same;
  kept = λ told tells. c.add_known.ensures.kept told (c.loop-id.invariant.kept told tells);
  only = λ told tells. c.loop-id.invariant.only told (c.add_known.ensures.only told tells);
}

pub returns-clause-told : goal.returns-clause-told
returns-clause-told g c = λ told tells test. c.loop-id.invariant.told told tells test
    ∙ rw (take_all c.loop-id.id-index c.deref-id-items.result.now c.loop-id-test.false, c.loop-id.invariant.items told tells) refl

pub returns-in_err-add_known-clause-fault : goal.returns-in_err-add_known-clause-fault
returns-in_err-add_known-clause-fault g c =
    let p = err_from_is_err_and c.from_residual-in_err-add_known.result c.from_residual-in_err-add_known.ensures.1 in
    rw (p.1, p.2) (fault_behind g.F.Facts.has_failed _ _ c.add_known.new.facts c.in_err-add_known.field-0.0 c.loop-id.invariant.asked c.in_err-add_known.ensures.fault)

pub returns-in_err-add_known-clause-asked : goal.returns-in_err-add_known-clause-asked
returns-in_err-add_known-clause-asked g c = asked-then _ _ _ c.loop-id.invariant.asked c.add_known.ensures.asked
