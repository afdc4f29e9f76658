use Rattle.std.proofs.Common.{◌≡◌, Some, option_map, sym, ap, ◌∙◌}
use Rattle.ob_definition.specs.Gathered.{Gathered}
use Rattle.ob_registry.proofs.TreeSteps.{parent-named}
use Rattle.ob_registry.proofs.strata.parent_of.Goals as goal

pub returns : goal.returns
returns c =
    let parent : c.model-model.result.now.gathered.now.parent ≡ Some c.in_ok-gathered.field-0.now = sym (ap (λ (g : Gathered). g.parent) c.gathered.view_is) ∙ ap (option_map (λ text. text.now)) c.in_ok-gathered.was in
    c.number.ensures.at ∙ parent-named c.args.models.now c.args.number c.model-model.result.now c.model-model.ensures c.in_ok-gathered.field-0.now parent
