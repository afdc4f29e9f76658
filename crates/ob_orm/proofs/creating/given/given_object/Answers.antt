use Rattle.std.proofs.Common.{◌≡◌, ◌∙◌, List, Vec, Global, ap}
use Rattle.ob_base.specs.declared.id.FieldNo.{FieldNo}
use Rattle.serde_json.specs.View.{members_view, view}
use Rattle.ob_call.proofs.CallerLemmas.{at_info}
use Rattle.ob_call.specs.Forms.{fields_at}
use Rattle.ob_schema.specs.Models.{model_at}
use Rattle.ob_schema.specs.declared.info.FieldInfo.{FieldInfo}
use Rattle.ob_orm.specs.GivenValues.{keyed_fields}
use Rattle.ob_orm.specs.ObjectSteps.{object_place, object_view}
use Rattle.ob_orm.proofs.GivenFields.{given_of_members, no_members_of}
use Rattle.ob_orm.proofs.creating.given.given_object.Goals as goal

pub unreachable-requires : goal.unreachable-requires
unreachable-requires c = no_members_of c.args.schema.now (fields_at c.args.schema.now c.args.model) (view c.args.json.now) c.requires.form c.in_default.ensures

pub returns-clause-given : goal.returns-clause-given
returns-clause-given c =
    let models = c.args.schema.now in
    let ms = members_view c.in-Some.members.now.entries in
    given_of_members (model_at models c.args.model) models (fields_at models c.args.model) (object_place c.args.spot) (view c.args.json.now) ms (object_view c.give_values.new.object) c.requires.form c.in-Some.ensures
    (at_info models c.args.model (λ (fields : List FieldInfo). c.give_values.new.object.fields.items ≡ keyed_fields fields ms) (ap (λ (fields : Vec FieldNo Global). fields.items) c.give_values.ensures.fields ∙ c.in_ok-keyed_fields.ensures))
    c.in_ok-give_values.ensures.given
