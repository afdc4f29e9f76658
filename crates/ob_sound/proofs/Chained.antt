-- What is reached from what is reached.
use Rattle.std.proofs.Common.{ℕ, zero, suc}
use Rattle.ob_schema.specs.Chains.{Reaches, ReachesOver}

module _ {X : Type 0} (Follows : X → X → Type 0) where
  pub reaches_then : (n : ℕ) (a b c : X) → ReachesOver Follows n a b → Reaches Follows b c → Reaches Follows a c
  reaches_then zero a b c one on = (suc on.0, (b, one, on.1))
  reaches_then (suc n) a b c more on = let rest = reaches_then n more.0 b c more.2 on in (suc rest.0, (more.0, more.1, rest.1))

  -- one step more
  pub reaches_next : (a b c : X) → Reaches Follows a b → Follows b c → Reaches Follows a c
  reaches_next a b c on next = reaches_then on.0 a b c on.1 (zero, next)
