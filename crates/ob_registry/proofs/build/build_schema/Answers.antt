use Rattle.std.proofs.Common.{None, List, length, refl, sym, ap, subst, arith}
use Rattle.std.proofs.lemmas.Result.{IfErr-weaker, on_ok_weaker}
use Rattle.ob_definition.specs.EntryFaults.{IsGatheringFault}
use Rattle.ob_definition.specs.Gathered.{Gathered}
use Rattle.ob_registry.specs.Resolving.{AreFew}
use Rattle.ob_registry.proofs.AllVerdict.{verdict}
use Rattle.ob_registry.proofs.Entered.{fault_within}
use Rattle.ob_registry.proofs.FewModels.{few_models}
use Rattle.ob_registry.proofs.NothingFound.{none_found}
use Rattle.ob_registry.proofs.Verdict.{IsFaultless-from, IsFirst-from}
use Rattle.ob_registry.proofs.build.build_schema.Goals as goal

pub registry_of-requires : goal.registry_of-requires
registry_of-requires c = record {
  few = let all = ap (λ (l : List Gathered). length l) c.models.ensures in omega arith;
  named = c.in_ok-gathering.ensures.named;
  limits = λ none. subst AreFew (sym c.in_ok-gathering.ensures.models)
      (few_models c.args.defs.now (none_found (IsGatheringFault c.args.defs.now) c.new-first.result c.gather.new.first c.in_ok-gathering.ensures.faults none));
}

pub returns-clause-faultless : goal.returns-clause-faultless
returns-clause-faultless c =
    on_ok_weaker c.registry_of.result
    (λ adds. IsFaultless-from c.args.defs.now None
    (verdict c.args.defs.now c.in_ok-gathering.gathering c.in_ok-gathering.ensures.models c.in_ok-gathering.ensures.named c.new-first.result c.gather.new.first _ c.new-first.ensures c.in_ok-gathering.ensures.faults adds) refl)
    c.registry_of.ensures.faultless

pub returns-clause-fault : goal.returns-clause-fault
returns-clause-fault c =
    IfErr-weaker c.registry_of.result _ _
    (λ why adds real. IsFirst-from c.args.defs.now _ why
    (verdict c.args.defs.now c.in_ok-gathering.gathering c.in_ok-gathering.ensures.models c.in_ok-gathering.ensures.named c.new-first.result c.gather.new.first _ c.new-first.ensures c.in_ok-gathering.ensures.faults (adds real)) refl)
    c.registry_of.ensures.fault

pub returns-clause-entry : goal.returns-clause-entry
returns-clause-entry c =
    IfErr-weaker c.registry_of.result _ _
    (λ why adds real. fault_within c.args.defs.now why (IsFirst-from c.args.defs.now _ why
    (verdict c.args.defs.now c.in_ok-gathering.gathering c.in_ok-gathering.ensures.models c.in_ok-gathering.ensures.named c.new-first.result c.gather.new.first _ c.new-first.ensures c.in_ok-gathering.ensures.faults (adds real)) refl).there)
    c.registry_of.ensures.fault
