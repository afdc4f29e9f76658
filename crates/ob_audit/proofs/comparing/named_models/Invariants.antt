use Rattle.std.proofs.Common.{◌≡◌, take}
use Rattle.ob_audit.specs.Report.{named_models}
use Rattle.ob_audit.proofs.comparing.named_models.Given as goal

-- the models up to a number
abbrev pub invariant-loop-place : goal.invariant-loop-place
invariant-loop-place l = l.named.items ≡ named_models (take l.place l.schema)
