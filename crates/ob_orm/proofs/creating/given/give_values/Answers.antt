use Rattle.std.proofs.Common.{arith, refl, ◌∙◌}
use Rattle.serde_json.specs.View.{members_view}
use Rattle.ob_orm.specs.ObjectSteps.{object_place}
use Rattle.ob_rows.proofs.CallerLemmas.{field_there}
use Rattle.ob_orm.proofs.GivenFields.{keys_at, so_far-all, so_far-more, so_far-none, so_far-typed}
use Rattle.ob_orm.proofs.creating.given.give_values.Goals as goal

pub loop-index-init : goal.loop-index-init
loop-index-init c = record {
  fields = refl;
  far = so_far-none c.args.schema.now (object_place c.args.spot) (members_view c.args.members.now.entries) c.args.model c.model_info.result.now c.model_info.ensures.at
      c.args.object.now.values c.args.object.now.wrong c.requires.empty c.requires.right;
}

pub value_given-requires-clause-field : goal.value_given-requires-clause-field
value_given-requires-clause-field c = field_there c.args.schema.now c.args.model c.model_info.result.now c.loop-index.index c.model_info.ensures.at (omega arith)

pub value_given-requires-clause-keys : goal.value_given-requires-clause-keys
value_given-requires-clause-keys c = keys_at c.args.schema.now c.args.model c.model_info.result.now c.loop-index.index c.model_info.ensures.at (omega arith) c.model_info.ensures.fit

pub loop-index-preserved : goal.loop-index-preserved
loop-index-preserved c = record {
  fields = c.note_value.ensures.fields ∙ c.loop-index.invariant.fields;
  far = so_far-more c.args.schema.now (object_place c.args.spot) (members_view c.args.members.now.entries) c.args.model c.model_info.result.now c.model_info.ensures.at c.loop-index.index (omega arith)
      c.loop-index.object.values c.note_value.new.object.values c.loop-index.object.wrong c.note_value.new.object.wrong c.in_ok-given.given
      c.in_ok-given.ensures.given c.in_ok-given.ensures.holds c.in_ok-note_value.ensures.values c.in_ok-note_value.ensures.wrong c.loop-index.invariant.far;
}

pub returns-clause-given : goal.returns-clause-given
returns-clause-given c =
    so_far-all c.args.schema.now (object_place c.args.spot) (members_view c.args.members.now.entries) c.args.model c.model_info.result.now c.model_info.ensures.at
    c.loop-index.index c.loop-index.object.values c.loop-index.object.wrong (omega arith) c.loop-index.invariant.far

pub returns-clause-typed : goal.returns-clause-typed
returns-clause-typed c =
    so_far-typed c.args.schema.now (object_place c.args.spot) (members_view c.args.members.now.entries) c.args.model c.model_info.result.now c.model_info.ensures.at
    c.loop-index.index c.loop-index.object.values c.loop-index.object.wrong c.loop-index.invariant.far
