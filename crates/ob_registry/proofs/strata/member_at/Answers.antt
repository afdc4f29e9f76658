use Rattle.std.proofs.Common.{◌≤◌, ap, subst}
use Rattle.std.specs.Prelude.{is_some}
use Rattle.ob_registry.specs.ModelFields.{member_of}
use Rattle.ob_registry.proofs.AllSteps.{step-there}
use Rattle.ob_registry.proofs.StepMembers.{kept-count, kept-member, kept-single}
use Rattle.ob_registry.proofs.strata.member_at.Goals as goal

pub model-requires : goal.model-requires
model-requires c = ap is_some (step-there c.args.models.now c.args.step c.requires).1

pub member-requires-clause-low : goal.member-requires-clause-low
member-requires-clause-low c = (step-there c.args.models.now c.args.step c.requires).2

pub member-requires-clause-within : goal.member-requires-clause-within
member-requires-clause-within c =
    let there = step-there c.args.models.now c.args.step c.requires in
    subst (λ n. c.args.step.field.0 ≤ n) (kept-count c.args.models.now c.args.step c.model.result.now c.model.ensures there.0 there.1) there.3

pub returns-clause-there : goal.returns-clause-there
returns-clause-there c =
    kept-member c.args.models.now c.args.step c.model.result.now c.model.ensures (member_of c.member.result.now) (step-there c.args.models.now c.args.step c.requires).2 c.member.ensures

pub returns-clause-single : goal.returns-clause-single
returns-clause-single c =
    kept-single c.args.models.now c.args.step c.model.result.now c.model.ensures (member_of c.member.result.now) (step-there c.args.models.now c.args.step c.requires).2 c.member.ensures
