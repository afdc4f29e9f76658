-- The row is known, as it was just told.
use Rattle.std.proofs.Common.{sym, ◌∙◌}
use Rattle.probe_models.proofs.asked.known_asked.Goals as goal

pub value-requires-clause-row : goal.value-requires-clause-row
value-requires-clause-row c = λ told tells.
    sym (c.in-Ok-true.ensures.known told (c.known.ensures.only told tells)) ∙ c.in-Ok-true.field-0-test
