-- Entries in order, around one of them.
use Rattle.std.proofs.Common.{◌≡◌, List, [], ◌∷◌, ◌++◌}
use Rattle.std.specs.List.{AllByRecursion}
use Rattle.std.specs.List.Sorted.{IsStrictlySortedBy}
use Rattle.std.specs.Map.{keys_of}
use Rattle.std.specs.declared.cmp.Ordering.{Ordering}
use Rattle.std.specs.declared.cmp.Ordering.TheVariants.{Less}

-- the entries before e and those after it are in order, the ones below its key and the others above it
pub record IsAround {K X : Type 0} (R : K → K → Ordering) (l : List (K × X)) (e : K × X) (r : List (K × X)) : Type 0 where
  pub left : IsStrictlySortedBy R (keys_of l)
  pub right : IsStrictlySortedBy R (keys_of r)
  pub below : AllByRecursion (λ x. R x.0 e.0 ≡ Less) l
  pub above : AllByRecursion (λ x. R e.0 x.0 ≡ Less) r

module _ {K X : Type 0} (P : K → Type 0) where
  over_entries : (es : List (K × X)) → AllByRecursion P (keys_of es) → AllByRecursion (λ x. P x.0) es
  over_entries [] a = tt
  over_entries (e ∷ es) a = (a.0, over_entries es a.1)

  all_before : (l m : List (K × X)) → AllByRecursion P (keys_of (l ++ m)) → AllByRecursion P (keys_of l)
  all_before [] m a = tt
  all_before (x ∷ l) m a = (a.0, all_before l m a.1)

  all_middle : (l : List (K × X)) (e : K × X) (r : List (K × X)) → AllByRecursion P (keys_of (l ++ e ∷ r)) → P e.0
  all_middle [] e r a = a.0
  all_middle (x ∷ l) e r a = all_middle l e r a.1

pub around : {K X : Type 0} (R : K → K → Ordering) (l : List (K × X)) (e : K × X) (r : List (K × X)) → IsStrictlySortedBy R (keys_of (l ++ e ∷ r)) → IsAround R l e r
unfolding IsStrictlySortedBy
around R [] e r s = record { left = tt; right = s.1; below = tt; above = over_entries (λ y. R e.0 y ≡ Less) r s.0 }
around R (x ∷ l) e r s =
    let rest = around R l e r s.1 in
    record {
      left = (all_before (λ y. R x.0 y ≡ Less) l (e ∷ r) s.0, rest.left);
      right = rest.right;
      below = (all_middle (λ y. R x.0 y ≡ Less) l e r s.0, rest.below);
      above = rest.above;
    }
