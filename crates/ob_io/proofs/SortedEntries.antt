-- Entries whose keys rise: as a tree says it, as a finite map says it, and what a look-up finds.
use Rattle.std.proofs.Common.{◌≡◌, Bool, true, false, cond, ◌&&◌, T, List, [], ◌∷◌, Some, refl, sym, ap, subst}
use Rattle.std.specs.declared.cmp.Ordering.{Ordering}
use Rattle.std.specs.declared.cmp.Ordering.TheVariants.{Less, Equal, Greater}
use Rattle.std.specs.Ordering.{is_lt}
use Rattle.std.specs.List.{AllByRecursion}
use Rattle.std.specs.List.Sorted.{IsStrictlySortedBy}
use Rattle.std.proofs.lemmas.Map.Keys.{sorted_head, sorted_tail}
use Rattle.std.specs.Map.{lookup, keys_of}
use Rattle.std.specs.BTreeMap.{is_at}
use Rattle.std.specs.FinMap.Entries.{below_all, is_sorted, find}

both : (a b : Bool) → T a → T b → T (a && b)
both true b p q = q
both false b p q = p

first : (a b : Bool) → T (a && b) → T a
first true b p = tt
first false b p = p

second : (a b : Bool) → T (a && b) → T b
second true b p = p
second false b p = absurd p

less : (r : Ordering) → T (is_lt r) → r ≡ Less
less Less p = refl
less Equal p = absurd p
less Greater p = absurd p

module _ {K X : Type 0} (R : K → K → Ordering) where
  pub find-lookup : (q : K) (es : List (K × X)) → find R q es ≡ lookup (is_at (R q)) es
  find-lookup q [] = refl
  find-lookup q (e ∷ es) = ap (cond (is_at (R q) e.0) (Some e.1)) (find-lookup q es)

  below-from_keys : (k : K) (es : List (K × X)) → AllByRecursion (λ y. R k y ≡ Less) (keys_of es) → T (below_all R k es)
  below-from_keys k [] h = tt
  below-from_keys k (e ∷ es) h = both _ _ (subst (λ r. T (is_lt r)) (sym h.0) tt) (below-from_keys k es h.1)

  keys-from_below : (k : K) (es : List (K × X)) → T (below_all R k es) → AllByRecursion (λ y. R k y ≡ Less) (keys_of es)
  keys-from_below k [] h = tt
  keys-from_below k (e ∷ es) h = (less _ (first _ _ h), keys-from_below k es (second _ _ h))

  pub is_sorted-from_keys : (es : List (K × X)) → IsStrictlySortedBy R (keys_of es) → T (is_sorted R es)
  is_sorted-from_keys [] h = tt
  is_sorted-from_keys (e ∷ es) h = both _ _ (below-from_keys e.0 es (sorted_head R e.0 (keys_of es) h)) (is_sorted-from_keys es (sorted_tail R e.0 (keys_of es) h))

  pub keys-from_is_sorted : (es : List (K × X)) → T (is_sorted R es) → IsStrictlySortedBy R (keys_of es)
  unfolding IsStrictlySortedBy
  keys-from_is_sorted [] h = tt
  keys-from_is_sorted (e ∷ es) h = (keys-from_below e.0 es (first _ _ h), keys-from_is_sorted es (second _ _ h))
