use Rattle.std.proofs.Common.{filter, ◌∙◌, arith}
use Rattle.ob_schema.specs.Fields.{is_kept}
use Rattle.ob_codec.proofs.RowLaws.{length-values, few_kept, written}
use Rattle.ob_codec.proofs.kept.bytes_of_fields.Goals as goal

pub overflow_cast-values : goal.overflow_cast-values
overflow_cast-values c =
    let fields = c.args.fields.now in
    omega (arith, few_kept fields c.requires.few, length-values (filter is_kept fields) c.args.values.now c.requires.values)

pub returns : goal.returns
returns c =
    c.from_vec.ensures
    ∙ written (filter is_kept c.args.fields.now) c.args.values.now c.new-out.result.items c.put_head.new.out.items c.put_fields.new.out.items c.requires.values
    c.new-out.ensures.items c.in_ok-put_head.ensures c.in_ok-put_fields.ensures
