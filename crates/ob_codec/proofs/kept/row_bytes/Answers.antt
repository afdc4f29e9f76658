use Rattle.ob_codec.proofs.RowLaws.{kept_at_is}
use Rattle.ob_codec.proofs.kept.row_bytes.Goals as goal

pub bytes_of_fields-requires-clause-values : goal.bytes_of_fields-requires-clause-values
bytes_of_fields-requires-clause-values c =
    rw (kept_at_is c.args.schema.now c.args.model c.fields.result.now c.fields.ensures.same) at c.requires.values

pub returns : goal.returns
returns c = rw (kept_at_is c.args.schema.now c.args.model c.fields.result.now c.fields.ensures.same) c.bytes_of_fields.ensures
