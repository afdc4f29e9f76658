use Rattle.ob_rows.proofs.IdFields.{no_id}
use Rattle.ob_rows.proofs.locking.told_field.Goals as goal

pub unreachable-requires : goal.unreachable-requires
unreachable-requires c = no_id c.args.schema.now c.parts_fit_together.ensures c.args.model c.field.result c.requires.model c.field.ensures.named c.in-None.is
