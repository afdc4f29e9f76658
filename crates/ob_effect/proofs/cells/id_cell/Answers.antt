use Rattle.ob_effect.proofs.IdFields.{id_found, no_id}
use Rattle.ob_effect.proofs.cells.id_cell.Goals as goal

pub unreachable-requires : goal.unreachable-requires
unreachable-requires c = no_id c.args.schema.now c.parts_fit_together.ensures c.args.row.model c.field.result c.requires.model c.field.ensures.named c.in-None.is

pub returns-clause-field : goal.returns-clause-field
returns-clause-field c = rw c.cell_of.ensures (id_found c.args.schema.now c.parts_fit_together.ensures c.args.row.model c.field.result c.in-Some.field c.requires.model c.field.ensures.named c.in-Some.is)
