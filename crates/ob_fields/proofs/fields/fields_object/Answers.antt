use Rattle.std.proofs.Common.{◌≡◌, ◌+◌, ◌++◌, ◌∷◌, [], get_or, take, rules}
use Rattle.std.proofs.lemmas.List.{take_all, take_more}
use Rattle.serde_json.specs.View.{members_view, view}
use Rattle.serde_json.proofs.Views.{view-Object}
use Rattle.ob_fields.proofs.FieldsObject.{IsPutTo-more, IsPutTo-object}
use Rattle.ob_fields.proofs.fields.fields_object.Goals as goal

pub loop-number-preserved : goal.loop-number-preserved
loop-number-preserved c =
    let numbers = c.args.numbers.now in let k = c.loop-number.number-index in let n = get_or numbers k (record { 0 = 0 }) in
    let more : take (k + 1) numbers ≡ take k numbers ++ n ∷ [] = take_more numbers k (record { 0 = 0 }) c.loop-number-test.true in
    rw more (IsPutTo-more c.args.schema.now c.args.model c.args.attributes.now (take k numbers) n c.info-field.result.now (view c.in_ok-told.told) (members_view c.loop-number.members.entries) _
    (search rules) c.in_ok-told.ensures.told c.in_ok-told.ensures.plain (rw c.as_str.ensures at c.in_ok-put_member.ensures) c.loop-number.invariant)

pub returns-clause-told : goal.returns-clause-told
returns-clause-told c =
    let numbers = c.args.numbers.now in
    let whole : take c.loop-number.number-index numbers ≡ numbers = take_all c.loop-number.number-index numbers c.loop-number-test.false in
    IsPutTo-object c.args.schema.now c.args.model c.args.attributes.now numbers (members_view c.loop-number.members.entries) _ (view-Object c.loop-number.members) (rw whole at c.loop-number.invariant)
