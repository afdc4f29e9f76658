use Rattle.std.proofs.Common.{rules, ◌≡◌, List, sym, subst, ap, ◌∙◌}
use Rattle.std.proofs.lemmas.List.{take_all}
use Rattle.ob_definition.specs.declared.definition.ModelDef.{ModelDef}
use Rattle.ob_definition.specs.EntryFaults.{IsGatheringFault}
use Rattle.ob_definition.specs.Findings.{Adds}
use Rattle.ob_definition.specs.Gathered.{AreWellNamed, gathered}
use Rattle.ob_definition.proofs.Fewness.{length-gathered}
use Rattle.ob_definition.proofs.Gathers.{gather-more, gather-none}
use Rattle.ob_definition.proofs.WellNamed.{gathered-named}
use Rattle.ob_definition.proofs.gathering.gather.Goals as goal

pub loop-place-init : goal.loop-place-init
loop-place-init c = (c.new-gathering.ensures, gather-none c.args.first.now)

pub loop-place-preserved : goal.loop-place-preserved
loop-place-preserved c =
    let same : c.in_ok-entry.entry ≡ c.loop-place.place = search rules in
    gather-more c.args.defs.now c.loop-place.place c.in_ok-entry.entry c.index-defs-place.result c.loop-place.gathering c.take.new.self c.args.first.now c.loop-place.first c.take.new.first c.loop-place-test.true same c.index-defs-place.is
    c.loop-place.invariant.0 c.in_ok-take.ensures.models c.loop-place.invariant.1 c.in_ok-take.ensures.faults

pub returns : goal.returns
returns c =
    let defs = c.args.defs.now in
    let all = take_all c.loop-place.place defs c.loop-place-test.false in
    let models : c.loop-place.gathering ≡ gathered defs = c.loop-place.invariant.0 ∙ ap gathered all in
    record {
      models = models;
      few = rw models (length-gathered defs);
      named = subst AreWellNamed (sym models) (gathered-named defs);
      faults = subst (λ (ds : List ModelDef). Adds (IsGatheringFault ds) c.args.first.now c.loop-place.first) all c.loop-place.invariant.1;
    }
