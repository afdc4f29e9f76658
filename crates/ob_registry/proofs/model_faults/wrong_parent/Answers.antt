use Rattle.std.proofs.Common.{◌∙◌, Option, Some, None, sym, ap}
use Rattle.std.specs.Borrow.{Bor}
use Rattle.std.specs.Prelude.{option_map}
use Rattle.std.proofs.lemmas.Bool.{false≢true}
use Rattle.ob_definition.specs.declared.wrong.Wrong.TheVariants as wrong
use Rattle.ob_definition.specs.Findings.{Tells}
use Rattle.ob_definition.specs.Members.{members_of, model_at, named}
use Rattle.ob_registry.specs.declared.model.Member.{Member as KeptMember}
use Rattle.ob_registry.specs.ModelFields.{member_of}
use Rattle.ob_registry.specs.Modelling.{IsModelled}
use Rattle.ob_registry.specs.Telling.{IsParentWrong}
use Rattle.ob_registry.proofs.FieldRooms.{parent_fits, parent_missed, parent_other}
use Rattle.ob_registry.proofs.NamedFields.{named_modelled}
use Rattle.ob_schema.proofs.CallerLemmas.{known_on}
use Rattle.ob_registry.proofs.model_faults.wrong_parent.Goals as goal

pub returns-in-None : goal.returns-in-None
returns-in-None c =
    let models = c.args.models.now in
    known_on (model_at models c.args.number.0) (λ g. IsModelled models g c.model.result.now) (λ g. Tells (IsParentWrong models c.args.number (named (members_of models g) c.args.name.now)) (Some wrong.Field))
    (λ g _ is. parent_missed models c.args.number (named (members_of models g) c.args.name.now) (sym (named_modelled models g c.model.result.now is c.args.name.now) ∙ sym c.in-None.ensures)) c.model.ensures

pub returns-in-Some : goal.returns-in-Some
returns-in-Some c =
    let models = c.args.models.now in
    known_on (model_at models c.args.number.0) (λ g. IsModelled models g c.model.result.now) (λ g. Tells (IsParentWrong models c.args.number (named (members_of models g) c.args.name.now)) None)
    (λ g _ is. parent_fits models c.args.number (named (members_of models g) c.args.name.now) (member_of c.in-Some.member.now) (sym (named_modelled models g c.model.result.now is c.args.name.now) ∙ sym c.in-Some.ensures)
    (c.leads_to.ensures.0 c.if-leads_to.true)) c.model.ensures

pub returns-in-Some-2 : goal.returns-in-Some-2
returns-in-Some-2 c =
    let models = c.args.models.now in
    let some = ap (λ (o : Option (Bor KeptMember)). option_map (λ member. member_of member.now) o) (sym c.in-Some.is) ∙ c.find.ensures in
    known_on (model_at models c.args.number.0) (λ g. IsModelled models g c.model.result.now) (λ g. Tells (IsParentWrong models c.args.number (named (members_of models g) c.args.name.now)) (Some wrong.Kind))
    (λ g _ is. parent_other models c.args.number (named (members_of models g) c.args.name.now) (member_of c.in-Some.member.now) (sym (named_modelled models g c.model.result.now is c.args.name.now) ∙ sym some)
    (λ leads. false≢true (sym c.if-leads_to.false ∙ c.leads_to.ensures.1 leads))) c.model.ensures
