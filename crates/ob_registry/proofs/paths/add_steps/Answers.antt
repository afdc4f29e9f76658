use Rattle.std.proofs.Common.{sym, ap, ◌∙◌}
use Rattle.std.proofs.lemmas.Result.{IfOk-weaker}
use Rattle.ob_registry.specs.ModelFields.{named_in, number_in}
use Rattle.ob_registry.proofs.AddedSteps.{grown-one, grown-two, no-delegation, no-none}
use Rattle.ob_registry.proofs.paths.add_steps.Goals as goal
use Rattle.ob_registry.proofs.paths.add_steps.Goals.{in-Delegated+in_default-delegation, in_default}

pub returns-in-Some : goal.returns-in-Some
returns-in-Some c =
    IfOk-weaker c.push-in-Some.result _ _
    (λ _ grown. grown-two c.args.models.now c.args.number c.model-model.result.now c.args.member.now c.args.steps.now c.push-in-Some.new.self c.requires c.model-model.ensures c.in-Delegated.link c.in-Some.delegation c.push.new.self
    c.in-Delegated.is (λ g is. sym c.in-Some.is ∙ c.delegation.ensures g is) c.in_ok-push.ensures.ok grown)
    c.push-in-Some.ensures.ok

pub returns-in-Some-number : goal.returns-in-Some-number
returns-in-Some-number c =
    IfOk-weaker c.push-in-Some-number.result _ _
    (λ _ grown. elim c.match-member.branch [
      | in-Delegated+in_default-delegation w ↦ absurd (no-delegation c.args.models.now c.args.number c.model-model.result.now c.args.member.now c.args.steps.now c.args.steps.now c.requires c.model-model.ensures
          w.in-Delegated.link w.in-Delegated.is
          (λ g is. sym w.in_default-delegation.is ∙ w.delegation.ensures g is))
      | in_default w ↦ grown-one c.args.models.now c.args.number c.model-model.result.now c.args.member.now c.args.steps.now c.push-in-Some-number.new.self c.requires c.model-model.ensures c.in-Some-number.field w.in_default.not-Delegated
          (sym c.in-Some-number.is ∙ c.number.ensures.at ∙ ap (number_in (named_in c.model-model.result.now.named c.model-model.result.now.members.items)) c.as_str.ensures) grown
    ])
    c.push-in-Some-number.ensures.ok

pub returns-in-None : goal.returns-in-None
returns-in-None c = absurd (no-none c.args.models.now c.args.number c.model-model.result.now c.args.member.now c.args.steps.now c.args.steps.now c.requires c.model-model.ensures
    (sym c.in-None.is ∙ c.number.ensures.at ∙ ap (number_in (named_in c.model-model.result.now.named c.model-model.result.now.members.items)) c.as_str.ensures))
