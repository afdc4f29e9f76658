-- The link and the field are found by their names.
use Rattle.std.proofs.Common.{◌≡◌, Some, None, option_map, sym, ap, ◌∙◌}
use Rattle.ob_definition.specs.Members.{model_number, number_named}
use Rattle.ob_registry.specs.ModelFields.{named_in, number_in}
use Rattle.ob_registry.proofs.NamedFields.{number_modelled}
use Rattle.ob_registry.proofs.Delegations.{behind, delegation-found, delegation-no_link, model_number-there}
use Rattle.ob_registry.proofs.models.Models.delegation.Goals as goal

pub model-requires : goal.model-requires
model-requires c =
    let known = sym (c.in_ok-target.ensures ∙ ap (model_number c.args.self.now) c.as_str.ensures) in
    model_number-there c.args.self.now c.args.through.now.model c.in_ok-target.target known

pub returns-in_err-number : goal.returns-in_err-number
returns-in_err-number c = λ g is.
    let front = named_in c.args.model.now.named c.args.model.now.members.items in
    let linked : number_named c.args.self.now g c.args.through.now.link ≡ None =
    sym (c.in_err-number.ensures.at ∙ ap (number_in front) c.as_str-2.ensures ∙ number_modelled c.args.self.now g c.args.model.now is c.args.through.now.link) in
    c.from_residual-in_err-number.ensures ∙ sym (delegation-no_link c.args.self.now g c.args.through.now c.args.def.now.name linked)

pub returns-in_err-number-2 : goal.returns-in_err-number-2
returns-in_err-number-2 c = λ g is.
    let models = c.args.self.now in
    let through = c.args.through.now in
    let name = c.args.def.now.name in
    let model = c.args.model.now in
    let parent = c.model.result.now in
    let known : model_number models through.model ≡ Some c.in_ok-target.target = sym (c.in_ok-target.ensures ∙ ap (model_number models) c.as_str.ensures) in
    let linked : number_named models g through.link ≡ Some c.in_ok-number.field-0 =
    sym (c.in_ok-number.ensures.at ∙ ap (number_in (named_in model.named model.members.items)) c.as_str-2.ensures ∙ number_modelled models g model is through.link) in
    let missing : number_in (named_in parent.named parent.members.items) name ≡ None =
    sym (c.in_err-number-2.ensures.at ∙ ap (number_in (named_in parent.named parent.members.items)) c.as_str-3.ensures) in
    let found = delegation-found models g through name c.in_ok-number.field-0 c.in_ok-target.target parent linked known c.model.ensures in
    c.from_residual-in_err-number-2.ensures ∙ sym (found ∙ ap (option_map (behind models g through name c.in_ok-number.field-0 c.in_ok-target.target)) missing)

pub returns : goal.returns
returns c = λ g is.
    let models = c.args.self.now in
    let through = c.args.through.now in
    let name = c.args.def.now.name in
    let model = c.args.model.now in
    let parent = c.model.result.now in
    let known : model_number models through.model ≡ Some c.in_ok-target.target = sym (c.in_ok-target.ensures ∙ ap (model_number models) c.as_str.ensures) in
    let linked : number_named models g through.link ≡ Some c.in_ok-number.field-0 =
    sym (c.in_ok-number.ensures.at ∙ ap (number_in (named_in model.named model.members.items)) c.as_str-2.ensures ∙ number_modelled models g model is through.link) in
    let there : number_in (named_in parent.named parent.members.items) name ≡ Some c.in_ok-number-2.field-0 =
    sym (c.in_ok-number-2.ensures.at ∙ ap (number_in (named_in parent.named parent.members.items)) c.as_str-3.ensures) in
    let found = delegation-found models g through name c.in_ok-number.field-0 c.in_ok-target.target parent linked known c.model.ensures in
    sym (found ∙ ap (option_map (behind models g through name c.in_ok-number.field-0 c.in_ok-target.target)) there)
