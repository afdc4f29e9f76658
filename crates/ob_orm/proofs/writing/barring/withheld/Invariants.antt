use Rattle.std.proofs.Common.{◌≡◌, take, true}
use Rattle.std.specs.Prelude.{All}
use Rattle.ob_base.specs.declared.refusal.Op.TheVariants as op
use Rattle.ob_rows.specs.Rights.{may}
use Rattle.ob_orm.proofs.writing.barring.withheld.Given as goal

-- he may write rows of the parents so far
abbrev pub invariant-loop-parent : goal.invariant-loop-parent
invariant-loop-parent l = All (λ parent. may l.by.policy.now l.by.groups.now l.by.user (op.Write, parent.model) ≡ true) (take l.parent-index l.parents)
