use Rattle.std.proofs.Common.{ap}
use Rattle.ob_base.specs.declared.id.Cell.{Cell}
use Rattle.ob_base.specs.declared.refusal.BrokenKind.TheVariants as kind
use Rattle.ob_base.specs.declared.refusal.Refusal.TheVariants as refusal
use Rattle.ob_orm.proofs.making.limits.limit_refusal.Goals as goal

pub returns : goal.returns
returns c =
    let says = c.id_cell.ensures in (
      c.id_cell.result.field,
      says.field,
      ap (λ (cell : Cell). refusal.Constraint (record { kind = kind.Limit; cell = cell })) (λ i. record { model = says.row.0 i; id = says.row.1 i; field = c.id_cell.result.field }),
    )
