use Rattle.std.proofs.Common.{option_map}
use Rattle.std.proofs.lemmas.List.Elements.{All-filter}
use Rattle.std.proofs.lemmas.Result.{IfOk-weaker}
use Rattle.serde_json.specs.View.{view}
use Rattle.ob_base.specs.declared.id.FieldNo.{FieldNo}
use Rattle.ob_call.specs.ArgumentsSteps.{given_of}
use Rattle.ob_fields.proofs.FieldsAnswer.{told-readable}
use Rattle.ob_fields.specs.FieldsGetSteps.{may_read}
use Rattle.ob_schema.specs.Models.{HasField}
use Rattle.ob_fields.proofs.fields.fields_asked.Goals as goal

pub fields_object-requires-clause-fields : goal.fields_object-requires-clause-fields
fields_object-requires-clause-fields c =
    let Fit = HasField c.args.schema.now c.args.model in
    let cut = rw c.as_slice.ensures.value at c.in_ok-numbers-2.ensures in
    rw (c.as_slice-2.ensures.value, cut) (All-filter (λ (field : FieldNo). may_read c.args.by.now c.args.model field) Fit c.in_ok-numbers.numbers.items c.in_ok-numbers.ensures.there)

pub returns-clause-told : goal.returns-clause-told
returns-clause-told c =
    let cut = rw c.as_slice.ensures.value at c.in_ok-numbers-2.ensures in
    IfOk-weaker c.fields_object.result _ _
    (λ json told.
    told-readable c.args.schema.now c.args.by.now c.args.model (option_map given_of c.args.names.now) (option_map given_of c.args.words.now) c.attributes_in-attributes.result c.in_ok-numbers.numbers.items
    c.in_ok-numbers-2.numbers.items (view json) c.in_ok-numbers.ensures.fields c.attributes_in-attributes.ensures cut (rw c.as_slice-2.ensures.value at told))
    c.fields_object.ensures.told
