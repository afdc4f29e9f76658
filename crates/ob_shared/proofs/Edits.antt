-- What edits and look-ups at a key are on entries in order around one of them: they concern one side alone.
use Rattle.std.proofs.Common.{◌≡◌, false, List, [], ◌∷◌, ◌++◌, Some, ap, ◌∙◌}
use Rattle.std.specs.Cmp.{IsTotalOrder}
use Rattle.std.specs.List.{AllByRecursion}
use Rattle.std.specs.Map.{lookup, remove_entry}
use Rattle.std.specs.Ordering.{is_eq, is_lt}
use Rattle.std.specs.declared.cmp.Ordering.{Ordering}
use Rattle.std.specs.declared.cmp.Ordering.TheVariants.{Less, Equal, Greater}
use Rattle.std.specs.BTreeMap.{insert_entry, is_at}
use Rattle.std.proofs.lemmas.Map.{NonePasses, lookup-none}
use Rattle.ob_shared.proofs.Orders.{above_first}
use Rattle.ob_shared.proofs.Parts.{IsAround}
use Rattle.ob_shared.proofs.Sides.{IsAbove, IsBelow, none_from_above, none_from_below, insert_at, insert_past, passed, failed, remove_past, remove_none, remove_before, lookup_past, lookup_before}

module _ {K X : Type 0} {R : K → K → Ordering} (total : IsTotalOrder R) (k : K) (e : K × X) where
  all_above : (l : List (K × X)) → AllByRecursion (λ x. R x.0 e.0 ≡ Less) l → is_lt (R k e.0) ≡ false → IsAbove R k l
  all_above [] a h = tt
  all_above (x ∷ l) a h = (above_first total k x.0 e.0 a.0 h, all_above l a.1 h)

  all_below : (r : List (K × X)) → AllByRecursion (λ x. R e.0 x.0 ≡ Less) r → R k e.0 ≡ Less → IsBelow R k r
  all_below [] a h = tt
  all_below (x ∷ r) a h = (total.trans k e.0 x.0 h a.0, all_below r a.1 h)

  module _ (l r : List (K × X)) (parts : IsAround R l e r) where
    above : is_lt (R k e.0) ≡ false → IsAbove R k l
    above = all_above l parts.below

    none_before : is_lt (R k e.0) ≡ false → NonePasses (is_at (R k)) l
    none_before h = none_from_above R k l (above h)

    none_after : R k e.0 ≡ Less → NonePasses (is_at (R k)) (e ∷ r)
    none_after h = (ap is_eq h, none_from_below R k r (all_below r parts.above h))

    pub insert-Equal : (v : X) → R k e.0 ≡ Equal → insert_entry R (l ++ e ∷ r) k v ≡ l ++ (e.0, v) ∷ r
    insert-Equal v h = insert_past R k v l (e ∷ r) (above (ap is_lt h)) ∙ ap (λ t. l ++ t) (insert_at R k v e r Equal h)

    pub insert-Greater : (v : X) → R k e.0 ≡ Greater → insert_entry R (l ++ e ∷ r) k v ≡ l ++ e ∷ insert_entry R r k v
    insert-Greater v h = insert_past R k v l (e ∷ r) (above (ap is_lt h)) ∙ ap (λ t. l ++ t) (insert_at R k v e r Greater h)

    pub remove-Less : R k e.0 ≡ Less → remove_entry (is_at (R k)) (l ++ e ∷ r) ≡ remove_entry (is_at (R k)) l ++ e ∷ r
    remove-Less h = remove_before (is_at (R k)) l (e ∷ r) (remove_none (is_at (R k)) (e ∷ r) (none_after h))

    pub remove-Equal : R k e.0 ≡ Equal → remove_entry (is_at (R k)) (l ++ e ∷ r) ≡ l ++ r
    remove-Equal h = remove_past (is_at (R k)) l (e ∷ r) (none_before (ap is_lt h)) ∙ ap (λ t. l ++ t) (passed _ _ (ap is_eq h))

    pub remove-Greater : R k e.0 ≡ Greater → remove_entry (is_at (R k)) (l ++ e ∷ r) ≡ l ++ e ∷ remove_entry (is_at (R k)) r
    remove-Greater h = remove_past (is_at (R k)) l (e ∷ r) (none_before (ap is_lt h)) ∙ ap (λ t. l ++ t) (failed _ _ (ap is_eq h))

    pub lookup-Less : R k e.0 ≡ Less → lookup (is_at (R k)) (l ++ e ∷ r) ≡ lookup (is_at (R k)) l
    lookup-Less h = lookup_before (is_at (R k)) l (e ∷ r) (lookup-none (is_at (R k)) (e ∷ r) (none_after h))

    pub lookup-Equal : R k e.0 ≡ Equal → lookup (is_at (R k)) (l ++ e ∷ r) ≡ Some e.1
    lookup-Equal h = lookup_past (is_at (R k)) l (e ∷ r) (none_before (ap is_lt h)) ∙ passed _ _ (ap is_eq h)

    pub lookup-Greater : R k e.0 ≡ Greater → lookup (is_at (R k)) (l ++ e ∷ r) ≡ lookup (is_at (R k)) r
    lookup-Greater h = lookup_past (is_at (R k)) l (e ∷ r) (none_before (ap is_lt h)) ∙ failed _ _ (ap is_eq h)
