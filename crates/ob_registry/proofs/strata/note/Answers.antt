use Rattle.std.proofs.Common.{◌≡◌, List, ap, subst}
use Rattle.std.specs.Prelude.{Contains}
use Rattle.std.proofs.lemmas.Result.{IfOk-weaker}
use Rattle.ob_definition.specs.declared.fault.Spot.{Spot}
use Rattle.ob_definition.specs.Findings.{Adds, IsAt}
use Rattle.ob_definition.specs.Rooms.{spot_at}
use Rattle.ob_schema.specs.declared.info.Step.{Step}
use Rattle.ob_registry.specs.ModelFields.{member_of}
use Rattle.ob_registry.specs.Telling.{spot_of}
use Rattle.ob_registry.proofs.AllSteps.{contains_at}
use Rattle.ob_registry.proofs.StepFaults.{told-at}
use Rattle.ob_registry.proofs.strata.note.Goals as goal

pub member_at-member-requires : goal.member_at-member-requires
member_at-member-requires c = subst (λ (l : List Step). Contains l c.step.result) c.requires.graph.steps (contains_at c.args.graph.now.steps.items c.args.node c.step.result c.step.ensures)

pub returns : goal.returns
returns c = IfOk-weaker c.at_field.result _ _ (λ _ fact.
    let spot : spot_at c.member_at-member.result.now.entry c.as_str.result.now ≡ spot_of (member_of c.member_at-member.result.now) = ap (spot_at c.member_at-member.result.now.entry) c.as_str.ensures in
    told-at c.args.models.now c.args.graph.now.steps.items c.args.node c.step.result (member_of c.member_at-member.result.now) c.args.wrong c.args.first.now c.at_field.new.self c.step.ensures
    c.member_at-member.ensures.there c.member_at-member.ensures.single
    (subst (λ (s : Spot). Adds (IsAt c.args.wrong s) c.args.first.now c.at_field.new.self) spot fact)) c.at_field.ensures.found
