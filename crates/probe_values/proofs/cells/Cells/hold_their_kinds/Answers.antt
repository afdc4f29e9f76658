use Rattle.std.specs.BTreeMap.{get}
use Rattle.ob_base.specs.contracts.id.CellOrd.TheImpl as order
use Rattle.probe_values.specs.Fields.{kind_of_field}
use Rattle.probe_values.proofs.Holding.{of_kind-is}
use Rattle.probe_values.proofs.cells.Cells.hold_their_kinds.Goals as goal

pub returns : goal.returns
returns c cell v is = of_kind-is (kind_of_field cell.field) (get order.ghosts.cmp c.args.self.now.values cell) v is
