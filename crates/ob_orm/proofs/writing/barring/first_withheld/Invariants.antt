use Rattle.std.proofs.Common.{◌≡◌, drop, map}
use Rattle.ob_base.specs.declared.refusal.Op.TheVariants as op
use Rattle.ob_rows.specs.Rights.{first_withheld}
use Rattle.ob_orm.proofs.writing.barring.first_withheld.Given as goal

-- the first of all is that of the rest
abbrev pub invariant-loop-row : goal.invariant-loop-row
invariant-loop-row l =
    first_withheld l.by.policy.now l.by.groups.now l.by.user (map (λ row. (op.Write, row.model)) l.rows)
    ≡ first_withheld l.by.policy.now l.by.groups.now l.by.user (map (λ row. (op.Write, row.model)) (drop l.row-index l.rows))
