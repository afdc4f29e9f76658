use Rattle.std.proofs.Common.{All, subst}
use Rattle.std.specs.Str.{IsUtf8}
use Rattle.std.proofs.lemmas.List.{take_all}
use Rattle.std.proofs.lemmas.List.Elements.{All-more}
use Rattle.ob_definition.specs.declared.field_type.Choice.{Choice}
use Rattle.ob_cache.specs.Native.{IsNativeField}
use Rattle.ob_cache.proofs.native.fields_are_native.Goals as goal

pub loop-field-preserved : goal.loop-field-preserved
loop-field-preserved c =
    let native : IsNativeField c.field-item.result = record {
      formula = c.origin_is_native.ensures;
      keys = subst (All (λ (choice : Choice). IsUtf8 choice.key)) c.as_slice.ensures c.keys_are_native.ensures;
    } in
    All-more IsNativeField c.args.fields.now c.loop-field.field-index c.field-item.result c.loop-field-test.true c.loop-field.invariant (subst IsNativeField c.field-item.is native)

pub returns : goal.returns
returns c = subst (All IsNativeField) (take_all c.loop-field.field-index c.args.fields.now c.loop-field-test.false) c.loop-field.invariant
