-- What is reached from itself has chains of every length; and a chain has shorter ones in front.
use Rattle.std.proofs.Common.{ℕ, zero, suc, ◌+◌, ◌≤◌, arith}
use Rattle.ob_schema.specs.Chains.{HasChain, Reaches, ReachesOver}

module _ {X : Type 0} (Follows : X → X → Type 0) where
  -- the front of a chain
  pub HasChain-shorter : (m n : ℕ) (a : X) → n ≤ m → HasChain Follows m a → HasChain Follows n a
  HasChain-shorter m zero a le chain = tt
  HasChain-shorter zero (suc n) a le chain = absurd (omega arith)
  HasChain-shorter (suc m) (suc n) a le (b, follows, chain) = (b, follows, HasChain-shorter m n b (omega arith) chain)

  -- a chain behind what is reached
  HasChain-before : (k : ℕ) (a b : X) → ReachesOver Follows k a b → (n : ℕ) → HasChain Follows n b → (m : ℕ) → m ≤ suc (k + n) → HasChain Follows m a
  HasChain-before zero a b follows n chain m le = HasChain-shorter (suc n) m a (omega arith) (b, follows, chain)
  HasChain-before (suc k) a b (c, follows, rest) n chain zero le = tt
  HasChain-before (suc k) a b (c, follows, rest) n chain (suc m) le = (c, follows, HasChain-before k c b rest n chain m (omega arith))

  -- so many rounds in a circle
  rounds : (a : X) (k : ℕ) → ReachesOver Follows k a a → (n : ℕ) → (m : ℕ) × (n ≤ m) × HasChain Follows m a
  rounds a k circle zero = (0, omega arith, tt)
  rounds a k circle (suc n) = let r = rounds a k circle n in (suc (k + r.0), omega (arith, r.1), HasChain-before k a a circle r.0 r.2 (suc (k + r.0)) (omega arith))

  -- chains of every length from a circle
  pub HasChain-from_circle : (a : X) → Reaches Follows a a → (n : ℕ) → HasChain Follows n a
  HasChain-from_circle a circle n = let r = rounds a circle.0 circle.1 n in HasChain-shorter r.0 n a r.1 r.2
