use Rattle.std.proofs.Common.{◌≡◌, ◌∙◌, Err, false, ap}
use Rattle.serde_json.specs.View.{members_view}
use Rattle.ob_base.specs.declared.refusal.Refusal.{Refusal}
use Rattle.ob_definition.specs.Types.{is_list}
use Rattle.ob_schema.specs.Models.{field_at}
use Rattle.ob_orm.specs.NewRowSteps.{HasTargetKeys}
use Rattle.ob_orm.specs.ObjectSteps.{object_place}
use Rattle.ob_rows.proofs.CallerLemmas.{tell, told}
use Rattle.ob_orm.proofs.GivenFields.{given-none, given-value, given-wrong}
use Rattle.ob_orm.proofs.creating.given.value_given.Goals as goal

pub set_by-requires : goal.set_by-requires
set_by-requires c = record { keys = told (field_at c.args.schema.now c.args.model c.args.number) c.info-field.result.now (HasTargetKeys c.args.schema.now) c.info-field.ensures c.requires.keys }

pub given_value-requires-clause-no_list : goal.given_value-requires-clause-no_list
given_value-requires-clause-no_list c =
    tell (field_at c.args.schema.now c.args.model c.args.number) c.info-field.result.now (λ field. is_list field.field_type ≡ false) c.info-field.ensures c.in-Some.ensures.flat

pub returns-in-Ok-clause-given : goal.returns-in-Ok-clause-given
returns-in-Ok-clause-given c =
    given-value c.args.schema.now (object_place c.args.spot) (members_view c.args.members.now.entries) (field_at c.args.schema.now c.args.model c.args.number) c.info-field.result.now _ c.in-Ok.value
    c.info-field.ensures c.in-Some.ensures.given c.in-Ok.ensures.value

pub returns-in-Err-Request-clause-given : goal.returns-in-Err-Request-clause-given
returns-in-Err-Request-clause-given c =
    let refused = c.in-Err-Request.is ∙ ap (λ (why : Refusal). Err why) c.in-Err-Request.field-0-is in
    given-wrong c.args.schema.now (object_place c.args.spot) (members_view c.args.members.now.entries) (field_at c.args.schema.now c.args.model c.args.number) c.info-field.result.now _ c.in-Err-Request.place
    c.given_value.result c.info-field.ensures c.in-Some.ensures.given refused c.given_value.ensures.value

pub returns-in_default-clause-given : goal.returns-in_default-clause-given
returns-in_default-clause-given c =
    given-none c.args.schema.now (object_place c.args.spot) (members_view c.args.members.now.entries) (field_at c.args.schema.now c.args.model c.args.number) c.info-field.result.now c.info-field.ensures c.in_default.ensures.given
