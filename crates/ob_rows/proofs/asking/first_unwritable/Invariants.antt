use Rattle.std.proofs.Common.{◌≡◌, drop}
use Rattle.std.specs.Prelude.{find, not}
use Rattle.ob_rows.specs.AskingSteps.{may_give}
use Rattle.ob_rows.proofs.asking.first_unwritable.Given as goal

-- the first of all is the first of those that are left
abbrev pub invariant-loop-field : goal.invariant-loop-field
invariant-loop-field l = find (λ field. not (may_give l.by l.model field)) l.fields ≡ find (λ field. not (may_give l.by l.model field)) (drop l.field-index l.fields)
