-- The number that the relation's model has for the name.
use Rattle.std.proofs.Common.{◌≡◌, rules, List, Some, ap, sym, ◌∙◌, ℕ}
use Rattle.ob_schema.specs.Finds.{relation_of}
use Rattle.ob_registry.specs.ModelFields.{named_in, number_in}
use Rattle.ob_registry.proofs.Fields.{named_back-found}
use Rattle.ob_registry.proofs.field_building.back_number.Goals as goal

pub returns : goal.returns
returns c =
    let models = c.args.models.now in
    let field = c.args.field.now in
    let leads : relation_of models field ≡ Some c.in_ok-target.target = sym c.relation.ensures ∙ c.in_ok-target.was in
    let key : c.args.key.now ≡ Some c.in_ok-name.name.now = search rules in
    let named = named_back-found models field c.args.key.now c.in_ok-name.name.now c.in_ok-target.target c.model.result.now key leads c.model.ensures in
    c.number.ensures.at ∙ ap (λ (name : List ℕ). number_in (named_in c.model.result.now.named c.model.result.now.members.items) name) c.as_str.ensures ∙ named
