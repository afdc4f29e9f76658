use Rattle.ob_schema.specs.Models.{HasModel}
use Rattle.probe_access.proofs.domains.put_over.Given as goal

-- the model that is asked about stays one of the facts' registry
abbrev pub invariant-loop : goal.invariant-loop
invariant-loop l = HasModel l.facts.schema.now l.caller.model
