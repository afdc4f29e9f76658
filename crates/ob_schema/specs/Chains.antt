-- Chains of things, each of which stands in a relation to the next.
use Rattle.std.specs.Prelude.{ℕ, zero, suc, ⊤}

module _ {X : Type 0} (Follows : X → X → Type 0) where
  -- so many follow one another behind this one
  abbrev pub HasChain : ℕ → X → Type 0
  HasChain zero a = ⊤
  HasChain (suc n) a = (b : X) × Follows a b × HasChain n b

  -- one is reached from another, with so many between
  abbrev pub ReachesOver : ℕ → X → X → Type 0
  ReachesOver zero a b = Follows a b
  ReachesOver (suc n) a c = (b : X) × Follows a b × ReachesOver n b c

  abbrev pub Reaches : X → X → Type 0
  Reaches a b = (n : ℕ) × ReachesOver n a b
