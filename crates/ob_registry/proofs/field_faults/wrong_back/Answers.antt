use Rattle.std.proofs.Common.{◌∙◌, Option, Some, None, sym, ap}
use Rattle.std.specs.Borrow.{Bor}
use Rattle.std.specs.Prelude.{option_map}
use Rattle.std.proofs.lemmas.Bool.{false≢true}
use Rattle.ob_definition.specs.Members.{Member}
use Rattle.ob_registry.specs.declared.model.Member.{Member as KeptMember}
use Rattle.ob_schema.specs.Formulas.{Place}
use Rattle.ob_registry.specs.ModelFields.{member_of}
use Rattle.ob_registry.proofs.FieldRooms.{back_fits, back_missed, back_other, looks_at}
use Rattle.ob_registry.proofs.field_faults.wrong_back.Goals as goal

pub returns-in-None : goal.returns-in-None
returns-in-None c =
    let p : Place = record { models = c.args.models.now; number = c.args.number; member = member_of c.args.member.now } in
    let found : Option Member = None in
    back_missed p c.args.key.now c.args.field_type
    (looks_at p c.args.key.now found c.in_ok-name.name.now c.as_str.result.now c.in_ok-target.target c.model.result.now c.in_ok-name.ensures.value c.in_ok-target.ensures c.model.ensures c.as_str.ensures c.in-None.ensures)

pub returns-in-Some : goal.returns-in-Some
returns-in-Some c =
    let p : Place = record { models = c.args.models.now; number = c.args.number; member = member_of c.args.member.now } in
    let back = member_of c.in-Some.back.now in
    back_fits p c.args.key.now c.args.field_type back
    (looks_at p c.args.key.now (Some back) c.in_ok-name.name.now c.as_str.result.now c.in_ok-target.target c.model.result.now c.in_ok-name.ensures.value c.in_ok-target.ensures c.model.ensures c.as_str.ensures c.in-Some.ensures)
    (c.leads_back.ensures.0 c.if-leads_back.true)

pub returns-in-Some-2 : goal.returns-in-Some-2
returns-in-Some-2 c =
    let p : Place = record { models = c.args.models.now; number = c.args.number; member = member_of c.args.member.now } in
    let back = member_of c.in-Some.back.now in
    back_other p c.args.key.now c.args.field_type back
    (looks_at p c.args.key.now (Some back) c.in_ok-name.name.now c.as_str.result.now c.in_ok-target.target c.model.result.now c.in_ok-name.ensures.value c.in_ok-target.ensures c.model.ensures c.as_str.ensures
    (ap (λ (o : Option (Bor KeptMember)). option_map (λ member. member_of member.now) o) (sym c.in-Some.is) ∙ c.find.ensures))
    (λ leads. false≢true (sym c.if-leads_back.false ∙ c.leads_back.ensures.1 leads))
