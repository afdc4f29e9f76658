use Rattle.std.proofs.Common.{◌∙◌, sym}
use Rattle.probe_access.proofs.accesses.admission.Goals as goal

-- what was known is known still
pub admits-requires-clause-known : goal.admits-requires-clause-known
admits-requires-clause-known c = λ told tells. sym (c.in_ok-is_known.ensures.known told (c.known.ensures.only told tells)) ∙ c.if-not-is_known.false

pub denier-requires-clause-known : goal.denier-requires-clause-known
denier-requires-clause-known c = λ told tells. sym (c.in_ok-is_known.ensures.known told (c.known.ensures.only told (c.admits.ensures.only told tells))) ∙ c.if-not-is_known.false
