-- Lists of entries one behind the other, where a test of keys or a key to be put in concerns one of them alone.
use Rattle.std.proofs.Common.{◌≡◌, Bool, true, false, cond, List, [], ◌∷◌, ◌++◌, Some, None, refl, ap, ◌∙◌}
use Rattle.std.specs.List.{AllByRecursion}
use Rattle.std.specs.Map.{lookup, remove_entry}
use Rattle.std.specs.Ordering.{is_eq, match_ordering}
use Rattle.std.specs.declared.cmp.Ordering.{Ordering}
use Rattle.std.specs.declared.cmp.Ordering.TheVariants.{Less, Equal, Greater}
use Rattle.std.specs.BTreeMap.{insert_entry, is_at}
use Rattle.std.proofs.lemmas.Map.{NonePasses}

module _ {K X : Type 0} (R : K → K → Ordering) (k : K) where
  -- k is above each key, or below each
  abbrev pub IsAbove : List (K × X) → Type 0
  IsAbove l = AllByRecursion (λ x. R k x.0 ≡ Greater) l

  abbrev pub IsBelow : List (K × X) → Type 0
  IsBelow l = AllByRecursion (λ x. R k x.0 ≡ Less) l

  pub none_from_above : (l : List (K × X)) → IsAbove l → NonePasses (is_at (R k)) l
  none_from_above [] a = tt
  none_from_above (x ∷ l) a = (ap is_eq a.0, none_from_above l a.1)

  pub none_from_below : (l : List (K × X)) → IsBelow l → NonePasses (is_at (R k)) l
  none_from_below [] a = tt
  none_from_below (x ∷ l) a = (ap is_eq a.0, none_from_below l a.1)

module _ {K X : Type 0} (R : K → K → Ordering) (k : K) (v : X) where
  pub insert_at : (e : K × X) (es : List (K × X)) (o : Ordering) → R k e.0 ≡ o → insert_entry R (e ∷ es) k v ≡ match_ordering o ((k, v) ∷ e ∷ es) ((e.0, v) ∷ es) (e ∷ insert_entry R es k v)
  insert_at e es o h = ap (λ p. match_ordering p ((k, v) ∷ e ∷ es) ((e.0, v) ∷ es) (e ∷ insert_entry R es k v)) h

  pub insert_before : (l : List (K × X)) (e : K × X) (r : List (K × X)) → R k e.0 ≡ Less → insert_entry R (l ++ e ∷ r) k v ≡ insert_entry R l k v ++ e ∷ r
  insert_before [] e r h = insert_at e r Less h
  insert_before (x ∷ l) e r h = by (R k x.0) (insert_before l e r h)
    where
      by : (o : Ordering) → insert_entry R (l ++ e ∷ r) k v ≡ insert_entry R l k v ++ e ∷ r
          → match_ordering o ((k, v) ∷ x ∷ (l ++ e ∷ r)) ((x.0, v) ∷ (l ++ e ∷ r)) (x ∷ insert_entry R (l ++ e ∷ r) k v)
          ≡ match_ordering o ((k, v) ∷ x ∷ l) ((x.0, v) ∷ l) (x ∷ insert_entry R l k v) ++ e ∷ r
      by Less g = refl
      by Equal g = refl
      by Greater g = ap (λ t. x ∷ t) g

  pub insert_past : (l m : List (K × X)) → IsAbove R k l → insert_entry R (l ++ m) k v ≡ l ++ insert_entry R m k v
  insert_past [] m a = refl
  insert_past (x ∷ l) m a = insert_at x (l ++ m) Greater a.0 ∙ ap (λ t. x ∷ t) (insert_past l m a.1)

pub passed : {A : Type 0} {b : Bool} (x y : A) → b ≡ true → cond b x y ≡ x
passed x y h = ap (λ c. cond c x y) h

pub failed : {A : Type 0} {b : Bool} (x y : A) → b ≡ false → cond b x y ≡ y
failed x y h = ap (λ c. cond c x y) h

module _ {K X : Type 0} (test : K → Bool) where
  pub remove_past : (l m : List (K × X)) → NonePasses test l → remove_entry test (l ++ m) ≡ l ++ remove_entry test m
  remove_past [] m a = refl
  remove_past (x ∷ l) m a = failed _ _ a.0 ∙ ap (λ t. x ∷ t) (remove_past l m a.1)

  pub remove_none : (l : List (K × X)) → NonePasses test l → remove_entry test l ≡ l
  remove_none [] a = refl
  remove_none (x ∷ l) a = failed _ _ a.0 ∙ ap (λ t. x ∷ t) (remove_none l a.1)

  pub remove_before : (l m : List (K × X)) → remove_entry test m ≡ m → remove_entry test (l ++ m) ≡ remove_entry test l ++ m
  remove_before [] m h = h
  remove_before (x ∷ l) m h = by (test x.0) (remove_before l m h)
    where
      by : (b : Bool) → remove_entry test (l ++ m) ≡ remove_entry test l ++ m → cond b (l ++ m) (x ∷ remove_entry test (l ++ m)) ≡ cond b l (x ∷ remove_entry test l) ++ m
      by true g = refl
      by false g = ap (λ t. x ∷ t) g

  pub lookup_past : (l m : List (K × X)) → NonePasses test l → lookup test (l ++ m) ≡ lookup test m
  lookup_past [] m a = refl
  lookup_past (x ∷ l) m a = failed _ _ a.0 ∙ lookup_past l m a.1

  pub lookup_before : (l m : List (K × X)) → lookup test m ≡ None → lookup test (l ++ m) ≡ lookup test l
  lookup_before [] m h = h
  lookup_before (x ∷ l) m h = ap (cond (test x.0) (Some x.1)) (lookup_before l m h)
