use Rattle.std.proofs.Common.{◌∙◌, sym}
use Rattle.probe_access.proofs.domains.meets.Goals as goal

-- what was known is known still
pub holds-requires-clause-known : goal.holds-requires-clause-known
holds-requires-clause-known c = λ told tells. sym (c.in_ok-is_known.ensures.known told (c.known.ensures.only told tells)) ∙ c.if-not-is_known.false
