use Rattle.std.proofs.Common.{◌≡◌, take}
use Rattle.ob_audit.specs.Comparing.{AddsFields}
use Rattle.ob_audit.specs.Report.{stored_fields}
use Rattle.ob_audit.proofs.comparing.add_fields.Given as goal

-- the models so far are told
abbrev pub invariant-loop-model : goal.invariant-loop-model
invariant-loop-model l = record {
  same : l.values ≡ l.tables;
  told : AddsFields l.tables l.stored (stored_fields l.schema (take l.model-index l.model-items)) l.fn.report l.report;
}
