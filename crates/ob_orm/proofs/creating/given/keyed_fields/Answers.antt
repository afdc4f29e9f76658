use Rattle.std.proofs.Common.{◌≡◌, ◌∙◌, ◌++◌, List, String, Global, append-nil, ap, sym}
use Rattle.std.specs.Map.{keys_of}
use Rattle.ob_base.specs.declared.id.FieldNo.{FieldNo}
use Rattle.ob_call.specs.Forms.{fields_at}
use Rattle.ob_orm.proofs.KeyedFields.{field_found, keyed-entries, keyed-passed, named_by}
use Rattle.ob_orm.proofs.creating.given.keyed_fields.Goals as goal
use Rattle.ob_schema.specs.Models.{field_named}

pub loop-key-init : goal.loop-key-init
loop-key-init c =
    let fields = fields_at c.args.schema.now c.args.model in
    let same : keys_of c.args.members.now.entries ≡ c.into_iter-key-iterator.result = cc in
    ap (λ (numbers : List FieldNo). numbers ++ named_by fields c.into_iter-key-iterator.result) c.new-fields.ensures.items ∙ ap (named_by fields) (sym same)

pub loop-key-preserved : goal.loop-key-preserved
loop-key-preserved c =
    let fields = fields_at c.args.schema.now c.args.model in
    let all = named_by fields (keys_of c.args.members.now.entries) in
    let found = field_found c.args.schema.now c.args.model c.as_str.result.now c.field.result c.requires c.field.ensures.named in
    keyed-passed fields c.loop-key.fields.items c.in-Some.key.now c.next.new.self all
    (ap (field_named fields) (sym c.as_str.ensures.value) ∙ sym found ∙ c.in_default.is)
    (ap (λ (keys : List (String Global)). c.loop-key.fields.items ++ named_by fields keys) (sym c.in-Some.ensures.steps) ∙ c.loop-key.invariant)

pub returns : goal.returns
returns c =
    let fields = fields_at c.args.schema.now c.args.model in
    sym (append-nil c.loop-key.fields.items) ∙ sym (ap (λ (keys : List (String Global)). c.loop-key.fields.items ++ named_by fields keys) c.in-None.ensures.steps.0) ∙ c.loop-key.invariant
    ∙ sym (keyed-entries fields c.args.members.now.entries)
