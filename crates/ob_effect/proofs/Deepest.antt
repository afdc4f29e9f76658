-- How deep the objects of commands are, one among several.
use Rattle.std.proofs.Common.{◌≡◌, ◌≤◌, ◌<◌, ℕ, zero, suc, List, [], ◌∷◌, get_or, length, max, sym, subst, arith}
use Rattle.ob_effect.specs.Objects.{deepest, deepest_of}
use Rattle.ob_effect.specs.declared.object.Orders.{Orders}

pub deepest_of-at : (os : List Orders) (i : ℕ) (o d : Orders) → i < length os → o ≡ get_or os i d → deepest o.commands ≤ deepest_of os
deepest_of-at [] i o d lt is = absurd (omega (arith, lt))
deepest_of-at (x ∷ os) zero o d lt is = subst (λ (y : Orders). deepest y.commands ≤ max (deepest x.commands) (deepest_of os)) (sym is) (omega arith)
deepest_of-at (x ∷ os) (suc i) o d lt is = let rest = deepest_of-at os i o d (omega (arith, lt)) is in omega (arith, rest)
