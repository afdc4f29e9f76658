use Rattle.std.proofs.Common.{◌≡◌, take}
use Rattle.ob_audit.specs.Comparing.{AddsFields}
use Rattle.ob_audit.proofs.Telling.{stored_from}
use Rattle.ob_audit.proofs.comparing.add_model.Given as goal

-- the fields so far are told
abbrev pub invariant-loop-place : goal.invariant-loop-place
invariant-loop-place l = record {
  same : l.values ≡ l.fn.values;
  told : AddsFields l.tables l.stored (stored_from l.model 1 (take l.place l.fields)) l.fn.report l.report;
}
