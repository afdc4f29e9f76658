use Rattle.std.proofs.Common.{◌≡◌, drop}
use Rattle.std.specs.Prelude.{find, not}
use Rattle.ob_rows.specs.AskingSteps.{may_by}
use Rattle.ob_orm.proofs.touching.first_withheld.Given as goal

-- none so far is withheld
abbrev pub invariant-loop-asking : goal.invariant-loop-asking
invariant-loop-asking l = find (λ asking. not (may_by l.by asking)) l.askings ≡ find (λ asking. not (may_by l.by asking)) (drop l.asking-index l.askings)
