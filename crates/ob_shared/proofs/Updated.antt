-- What an edit of a map's entries is to the map: it stays in order, and changes at the key alone.
use Rattle.std.proofs.Common.{◌≡◌, Bool, true, false, cond, List, [], ◌∷◌, Option, Some, None, Ok, Err, Result, ℕ, sym, refl, ap, subst, ◌∙◌}
use Rattle.std.specs.Cmp.{IsTotalOrder}
use Rattle.std.specs.List.{AllByRecursion}
use Rattle.std.specs.List.Sorted.{IsStrictlySortedBy}
use Rattle.std.specs.Borrow.{Bor}
use Rattle.std.specs.Map.{keys_of, lookup, remove_entry}
use Rattle.std.specs.Option.{is_some, option_copied}
use Rattle.std.specs.declared.cmp.Ordering.{Ordering}
use Rattle.std.specs.declared.cmp.Ordering.TheVariants.{Less}
use Rattle.std.specs.BTreeMap.{BTreeMap, IsOrdered, Updates, insert_entry, is_at}
use Rattle.std.proofs.lemmas.Bool.{true≢false}
use Rattle.std.proofs.lemmas.Map.{none_passes_from_lookup}
use Rattle.std_collections.specs.Layout.BTreeMap.{seek}
use Rattle.std_collections.proofs.Entries.{keys-set_value}
use Rattle.std_collections.proofs.Seek.{found_at, insert_entry-Ok, insert_entry_err, sorted_insert}
use Rattle.ob_shared.specs.Shown.{map_of}
use Rattle.ob_shared.proofs.Sides.{remove_none}
use Rattle.std_collections.proofs.TreeMap.Lookup.{Updates-insert, updates_remove, updates_set}

module _ {K X : Type 0} {R : K → K → Ordering} (total : IsTotalOrder R) (k : K) (v : X) where
  pub sorted-insert_entry : (es : List (K × X)) → IsStrictlySortedBy R (keys_of es) → IsStrictlySortedBy R (keys_of (insert_entry R es k v))
  sorted-insert_entry es s = by (seek (R k) es) refl
    where
      by : (at : Result ℕ ℕ) → seek (R k) es ≡ at → IsStrictlySortedBy R (keys_of (insert_entry R es k v))
      by (Ok i) h =
          let same = sym (insert_entry-Ok R k v es i h) ∙ (found_at (R k) es i h).writes v in
          subst (IsStrictlySortedBy R) (sym (ap keys_of same ∙ keys-set_value (is_at (R k)) es v)) s
      by (Err i) h = subst (λ t. IsStrictlySortedBy R (keys_of t)) (insert_entry_err R k v es i h) (sorted_insert R k v total es i s h)

  pub updates_insert_entry : (m n : BTreeMap K X) → IsOrdered R m → n.entries ≡ insert_entry R m.entries k v → Updates R m n k (Some v)
  updates_insert_entry m n s e = by (seek (R k) m.entries) refl
    where
      by : (at : Result ℕ ℕ) → seek (R k) m.entries ≡ at → Updates R m n k (Some v)
      by (Ok i) h =
          let found = found_at (R k) m.entries i h in
          updates_set total (R k) (total.congr k) m n v found.there (e ∙ sym (insert_entry-Ok R k v m.entries i h) ∙ found.writes v)
      by (Err i) h = Updates-insert total k v m n i s (sym h) (e ∙ sym (insert_entry_err R k v m.entries i h))

module _ {K X : Type 0} (R : K → K → Ordering) (test : K → Bool) where
  all-remove_entry : (P : K → Type 0) (es : List (K × X)) → AllByRecursion P (keys_of es) → AllByRecursion P (keys_of (remove_entry test es))
  all-remove_entry P [] a = tt
  all-remove_entry P (e ∷ es) a = by (test e.0) (all-remove_entry P es a.1)
    where
      by : (b : Bool) → AllByRecursion P (keys_of (remove_entry test es)) → AllByRecursion P (keys_of (cond b es (e ∷ remove_entry test es)))
      by true rest = a.1
      by false rest = (a.0, rest)

  sorted-cond : (b : Bool) (e : K × X) (es fs : List (K × X)) → IsStrictlySortedBy R (keys_of es) → AllByRecursion (λ y. R e.0 y ≡ Less) (keys_of fs) → IsStrictlySortedBy R (keys_of fs)
      → IsStrictlySortedBy R (keys_of (cond b es (e ∷ fs)))
  unfolding IsStrictlySortedBy
  sorted-cond true e es fs s above rest = s
  sorted-cond false e es fs s above rest = (above, rest)

  pub sorted-remove_entry : (es : List (K × X)) → IsStrictlySortedBy R (keys_of es) → IsStrictlySortedBy R (keys_of (remove_entry test es))
  unfolding IsStrictlySortedBy
  sorted-remove_entry [] s = tt
  sorted-remove_entry (e ∷ es) s = sorted-cond (test e.0) e es (remove_entry test es) s.1 (all-remove_entry (λ y. R e.0 y ≡ Less) es s.0) (sorted-remove_entry es s.1)

no_value : {V : Type 0} (found : Option (Bor V)) (value : Option V) → is_some found ≡ false → option_copied found ≡ value → value ≡ None
no_value None value none same = sym same
no_value (Some x) value none same = absurd (true≢false none)

-- a map whose tree showed es, and shows fs now
module _ {K V : Type 0} {R : K → K → Ordering} (total : IsTotalOrder R) (es fs : List (K × V)) (m : BTreeMap K V) (view : map_of es ≡ m) (sorted : IsStrictlySortedBy R (keys_of es)) (k : K) where
  ordered : IsOrdered R m
  ordered = subst (IsOrdered R) view sorted

  pub map-inserted : (v w : V) → fs ≡ insert_entry R es k w → w ≡ v → Updates R m (map_of fs) k (Some v)
  map-inserted v w e same = updates_insert_entry total k v m (map_of fs) ordered (e ∙ ap (λ x. insert_entry R es k x) same ∙ ap (λ n. insert_entry R n.entries k v) view)

  pub map-removed : fs ≡ remove_entry (is_at (R k)) es → Updates R m (map_of fs) k None
  map-removed e = updates_remove total (R k) (total.congr k) m (map_of fs) ordered (e ∙ ap (λ n. remove_entry (is_at (R k)) n.entries) view)

-- a map that lacks a key
module _ {K V : Type 0} {R : K → K → Ordering} (total : IsTotalOrder R) (es : List (K × V)) (m : BTreeMap K V) (view : map_of es ≡ m) (k : K) (found : Option (Bor V)) where
  absent_from : lookup (is_at (R k)) es ≡ None → m.entries ≡ remove_entry (is_at (R k)) m.entries
  absent_from none =
      ap (λ n. n.entries) (sym view)
      ∙ sym (remove_none (is_at (R k)) es (none_passes_from_lookup (is_at (R k)) es none))
      ∙ ap (λ n. remove_entry (is_at (R k)) n.entries) view

  pub absent : is_some found ≡ false → option_copied found ≡ lookup (is_at (R k)) es → m.entries ≡ remove_entry (is_at (R k)) m.entries
  absent none same = absent_from (no_value found (lookup (is_at (R k)) es) none same)

  pub map-same : is_some found ≡ false → option_copied found ≡ lookup (is_at (R k)) es → IsStrictlySortedBy R (keys_of es) → Updates R m m k None
  map-same none same sorted = updates_remove total (R k) (total.congr k) m m (subst (IsOrdered R) view sorted) (absent none same)
