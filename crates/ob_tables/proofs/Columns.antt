-- What a made row has at a number, and which rows have the numbers of a model's plain kept fields.
use Rattle.std.proofs.Common.{◌≡◌, ◌<◌, ◌≤◌, ◌+◌, ◌==◌, ℕ, zero, suc, nat_lt, Bool, true, false, cond, ◌&&◌, T, List, [], ◌∷◌, map, filter, length, Option, Some, None, option_map, is_some, refl, sym, ap, subst, ◌∙◌, arith}
use Rattle.std.specs.declared.cmp.Ordering.{Ordering}
use Rattle.std.specs.declared.cmp.Ordering.TheVariants.{Less, Equal, Greater}
use Rattle.std.specs.List.{enumerate_from, slice_get, list_any}
use Rattle.std.specs.Ordering.{nat_cmp, is_lt, eq_by_cmp}
use Rattle.std.specs.Cmp.{IsTotalOrder, nat_cmp_total}
use Rattle.std.proofs.lemmas.Bool.{ltb-true, ltb-false}
use Rattle.std.proofs.lemmas.Bool.Decides.{nat_tests}
use Rattle.std.proofs.lemmas.Option.{slice_get_past}
use Rattle.std.proofs.lemmas.Map.Lookups.{CmpEqualImpliesEq, exact_unsigned}
use Rattle.std.proofs.lemmas.Map.Views.{tells_apart}
use Rattle.std.specs.FinMap as finite
use Rattle.std.specs.FinMap.Entries.{below_all, is_sorted, find, same_entries}
use Rattle.ob_base.specs.declared.id.FieldNo.{FieldNo}
use Rattle.ob_base.specs.declared.value.Value.{Value}
use Rattle.ob_schema.specs.Built.{numbered}
use Rattle.ob_schema.specs.Fields.{Column, is_plain_kept, plain_columns}
use Rattle.ob_schema.specs.declared.info.FieldInfo.{FieldInfo}
use Rattle.ob_schema.specs.declared.info.ModelInfo.{ModelInfo}
use Rattle.ob_tables.specs.After.{given_for, row_of}
use Rattle.ob_schema.specs.Tables.{IsRowOf, PlainRow}
use Rattle.ob_tables.proofs.Shown.{apart, itself}

-- the value that a plain kept field of a number has, and no other field has one
abbrev pub kept_as : (Column → Value) → ℕ → Option FieldInfo → Option Value
kept_as g q None = None
kept_as g q (Some field) = cond (is_plain_kept field) (Some (g (q, field))) None

-- values by their fields' numbers
abbrev pub valued : (Column → Value) → List Column → List (ℕ × Value)
valued g columns = map (λ column. (column.0, g column)) columns

abbrev kept_only : List Column → List Column
kept_only columns = filter (λ column. is_plain_kept column.1) columns

module _ (g : Column → Value) where
  -- no number is below the first
  find-before : (k from : ℕ) (fields : List FieldInfo) → k < from → find nat_cmp k (valued g (kept_only (enumerate_from from fields))) ≡ None
  find-before k from [] h = refl
  find-before k from (f ∷ fields) h = by_case (is_plain_kept f) (kept_only (enumerate_from (from + 1) fields)) (find-before k (from + 1) fields (omega arith))
    where
      by_case : (b : Bool) (rest : List Column) → find nat_cmp k (valued g rest) ≡ None → find nat_cmp k (valued g (cond b ((from, f) ∷ rest) rest)) ≡ None
      by_case true rest later = ap (λ t. cond t (Some (g (from, f))) (find nat_cmp k (valued g rest))) (apart k from (λ is. absurd (omega arith))) ∙ later
      by_case false rest later = later

  passed : (k from : ℕ) (f : FieldInfo) (b : Bool) (rest : List Column) (w : Option Value) → (k ≡ from → ⊥) → find nat_cmp k (valued g rest) ≡ w → find nat_cmp k (valued g (cond b ((from, f) ∷ rest) rest)) ≡ w
  passed k from f true rest w differ later = ap (λ t. cond t (Some (g (from, f))) (find nat_cmp k (valued g rest))) (apart k from differ) ∙ later
  passed k from f false rest w differ later = later

  here : (k from : ℕ) (f : FieldInfo) (b : Bool) (rest : List Column) → k ≡ from → find nat_cmp k (valued g rest) ≡ None → find nat_cmp k (valued g (cond b ((from, f) ∷ rest) rest)) ≡ cond b (Some (g (k, f))) None
  here k from f true rest same later = ap (λ t. cond t (Some (g (from, f))) (find nat_cmp k (valued g rest))) (itself k from same) ∙ ap (λ n. Some (g (n, f))) (sym same)
  here k from f false rest same later = later

  -- each number from the first on
  find-from : (from i : ℕ) (fields : List FieldInfo) → find nat_cmp (from + i) (valued g (kept_only (enumerate_from from fields))) ≡ kept_as g (from + i) (slice_get fields i)
  find-from from i [] = refl
  find-from from zero (f ∷ fields) = here (from + zero) from f (is_plain_kept f) (kept_only (enumerate_from (from + 1) fields)) (omega arith) (find-before (from + zero) (from + 1) fields (omega arith))
  find-from from (suc i) (f ∷ fields) =
      let rest = kept_only (enumerate_from (from + 1) fields) in
      let next : from + suc i ≡ (from + 1) + i = omega arith in
      passed (from + suc i) from f (is_plain_kept f) rest (kept_as g (from + suc i) (slice_get fields i)) (λ is. absurd (omega arith))
      (ap (λ k. find nat_cmp k (valued g rest)) next ∙ find-from (from + 1) i fields ∙ ap (λ k. kept_as g k (slice_get fields i)) (sym next))

  -- the value at each number
  pub find-columns : (info : ModelInfo) (q : ℕ) → find nat_cmp q (valued g (plain_columns info)) ≡ kept_as g q (numbered info.fields q)
  find-columns info zero = find-before zero 1 info.fields (omega arith)
  find-columns info (suc n) = ap (λ k. find nat_cmp k (valued g (plain_columns info))) next ∙ find-from 1 n info.fields ∙ ap (λ k. kept_as g k (slice_get info.fields n)) (sym next)
    where
      next : suc n ≡ 1 + n
      next = omega arith

-- a made row has a value for each plain kept field
pub get-row_of : (info : ModelInfo) (values : List (FieldNo × Value)) (q : ℕ) → finite.get (row_of info values) q ≡ kept_as (given_for values) q (numbered info.fields q)
get-row_of info values q = finite.get-from_entries nat_cmp_total (valued (given_for values) (plain_columns info)) q ∙ find-columns (given_for values) info q

-- whether a field is there and a row keeps it
abbrev pub keeps : Option FieldInfo → Bool
keeps None = false
keeps (Some field) = is_plain_kept field

pub is_some-kept : (g : Column → Value) (q : ℕ) (found : Option FieldInfo) → is_some (kept_as g q found) ≡ keeps found
is_some-kept g q None = refl
is_some-kept g q (Some field) = by_case (is_plain_kept field)
  where
    by_case : (b : Bool) → is_some (cond b (Some (g (q, field))) None) ≡ b
    by_case true = refl
    by_case false = refl

module _ {K X : Type 0} (R : K → K → Ordering) where
  unit_below : (x : K) (es : List (K × X)) → below_all R x (map (λ e. (e.0, tt {0})) es) ≡ below_all R x es
  unit_below x [] = refl
  unit_below x (e ∷ es) = ap (λ b. is_lt (R x e.0) && b) (unit_below x es)

  unit_sorted : (es : List (K × X)) → is_sorted R (map (λ e. (e.0, tt {0})) es) ≡ is_sorted R es
  unit_sorted [] = refl
  unit_sorted (e ∷ es) = ap (λ b. b && is_sorted R (map (λ f. (f.0, tt {0})) es)) (unit_below e.0 es) ∙ ap (λ b. below_all R e.0 es && b) (unit_sorted es)

  unit_keys : (es : List (K × X)) → map (λ (e : K × Unit {0}). e.0) (map (λ e. (e.0, tt {0})) es) ≡ map (λ (e : K × X). e.0) es
  unit_keys [] = refl
  unit_keys (e ∷ es) = ap (λ ks. e.0 ∷ ks) (unit_keys es)

  there : Option X → Option (Unit {0})
  there o = option_map (λ _. tt) o

  first_there : (b : Bool) (x : X) (l : Option X) (m : Option (Unit {0})) → m ≡ option_map (λ _. tt) l → cond b (Some tt) m ≡ option_map (λ _. tt {0}) (cond b (Some x) l)
  first_there true x l m h = refl
  first_there false x l m h = h

  unit_find : (q : K) (es : List (K × X)) → find R q (map (λ e. (e.0, tt {0})) es) ≡ option_map (λ _. tt) (find R q es)
  unit_find q [] = refl
  unit_find q (e ∷ es) = first_there (eq_by_cmp R q e.0) e.1 (find R q es) (find R q (map (λ f. (f.0, tt {0})) es)) (unit_find q es)

same_there : {X Y : Type 0} (a : Option X) (b : Option Y) → is_some a ≡ is_some b → option_map (λ _. tt {0}) a ≡ option_map (λ _. tt {0}) b
same_there None None h = refl
same_there None (Some y) h = cc
same_there (Some x) None h = cc
same_there (Some x) (Some y) h = refl

-- maps that have values at the same keys have the same keys
pub same_keys : {K X Y : Type 0} {R : K → K → Ordering} → IsTotalOrder R → CmpEqualImpliesEq R → (m : finite.FinMap R X) (n : finite.FinMap R Y)
    → ((q : K) → is_some (finite.get m q) ≡ is_some (finite.get n q)) → finite.keys m ≡ finite.keys n
same_keys {K} {R = R} o exact m n h =
    let es = finite.entries m in
    let fs = finite.entries n in
    sym (unit_keys R es) ∙ ap (map (λ (e : K × Unit {0}). e.0)) (same_entries R o exact (map (λ e. (e.0, tt {0})) es) (map (λ e. (e.0, tt {0})) fs)
    (subst T (sym (unit_sorted R es)) (finite.entries_sorted m)) (subst T (sym (unit_sorted R fs)) (finite.entries_sorted n)) (λ q.
    unit_find R q es ∙ same_there (find R q es) (find R q fs) (sym (ap is_some (finite.get-entries m q)) ∙ h q ∙ ap is_some (finite.get-entries n q)) ∙ sym (unit_find R q fs)))
    ∙ unit_keys R fs

both : (a b : Bool) → T a → T b → T (a && b)
both true b p q = q
both false b p q = p

less : (a b : ℕ) → a < b → T (is_lt (nat_cmp a b))
less a b lt = subst T (sym (less_true (nat_lt a b) (a == b) (passes a b lt))) tt
  where
    passes : (a b : ℕ) → a < b → nat_lt a b ≡ true
    passes a b lt = grind (arith, nat_tests)

    less_true : (s t : Bool) → s ≡ true → is_lt (cond s Less (cond t Equal Greater)) ≡ true
    less_true true t e = refl
    less_true false t e = cc

-- the numbers of columns rise, above each number below the first
abbrev Rises : ℕ → List (ℕ × Value) → Type 0
Rises k es = T (below_all nat_cmp k es) × T (is_sorted nat_cmp es)

sorted-columns : (g : Column → Value) (from : ℕ) (fields : List FieldInfo) (k : ℕ) → k < from → Rises k (valued g (kept_only (enumerate_from from fields)))
sorted-columns g from [] k h = (tt, tt)
sorted-columns g from (f ∷ fields) k h =
    by_case (is_plain_kept f) (kept_only (enumerate_from (from + 1) fields)) (sorted-columns g (from + 1) fields k (omega arith)) (sorted-columns g (from + 1) fields from (omega arith))
  where
    by_case : (b : Bool) (rest : List Column) → Rises k (valued g rest) → Rises from (valued g rest) → Rises k (valued g (cond b ((from, f) ∷ rest) rest))
    by_case true rest low high = (both (is_lt (nat_cmp k from)) (below_all nat_cmp k (valued g rest)) (less k from h) low.0, both (below_all nat_cmp from (valued g rest)) (is_sorted nat_cmp (valued g rest)) high.0 high.1)
    by_case false rest low high = low

valued_keys : (g : Column → Value) (columns : List Column) → map (λ e. e.0) (valued g columns) ≡ map (λ column. column.0) columns
valued_keys g [] = refl
valued_keys g (column ∷ columns) = ap (λ ks. column.0 ∷ ks) (valued_keys g columns)

-- a made row is one of the model
pub row_of-IsRowOf : (info : ModelInfo) (values : List (FieldNo × Value)) → IsRowOf info (row_of info values)
row_of-IsRowOf info values =
    let es = valued (given_for values) (plain_columns info) in
    let rises = (sorted-columns (given_for values) 1 info.fields 0 (omega arith)).1 in
    let same : row_of info values ≡ finite.from_sorted {R = nat_cmp} es = finite.same_map nat_cmp_total exact_unsigned (row_of info values) (finite.from_sorted {R = nat_cmp} es) (λ q.
    finite.get-from_entries nat_cmp_total es q ∙ sym (finite.get-from_sorted nat_cmp es q rises)) in
    ap (λ m. map (λ e. e.0) (finite.entries m)) same ∙ ap (map (λ e. e.0)) (finite.entries-from_sorted nat_cmp es rises) ∙ valued_keys (given_for values) (plain_columns info)

-- a row of the model has a value for each plain kept field and no other
pub row-has : (info : ModelInfo) (row : PlainRow) → IsRowOf info row → (q : ℕ) → is_some (finite.get row q) ≡ keeps (numbered info.fields q)
row-has info row h q =
    finite.contains_key-keys row q ∙ ap (list_any (eq_by_cmp nat_cmp q)) (h ∙ sym (row_of-IsRowOf info [])) ∙ sym (finite.contains_key-keys (row_of info []) q)
    ∙ ap is_some (get-row_of info [] q) ∙ is_some-kept (given_for []) q (numbered info.fields q)

-- and a row that has those is one of the model
pub row-from : (info : ModelInfo) (row : PlainRow) → ((q : ℕ) → is_some (finite.get row q) ≡ keeps (numbered info.fields q)) → IsRowOf info row
row-from info row h = same_keys nat_cmp_total exact_unsigned row (row_of info []) (λ q. h q ∙ sym (ap is_some (get-row_of info [] q) ∙ is_some-kept (given_for []) q (numbered info.fields q))) ∙ row_of-IsRowOf info []

-- the values of the fields up to a number
abbrev pub up_to : (Column → Value) → ModelInfo → ℕ → ℕ → Option Value
up_to g info i q = cond (nat_lt i q) None (kept_as g q (numbered info.fields q))

module _ (g : Column → Value) (info : ModelInfo) where
  below : (a b : ℕ) → b ≤ a → nat_lt a b ≡ false
  below a b h = grind (arith, nat_tests)

  above : (a b : ℕ) → a < b → nat_lt a b ≡ true
  above a b h = grind (arith, nat_tests)

  -- no field yet
  pub up_to-none : (q : ℕ) → up_to g info 0 q ≡ None
  up_to-none zero = refl
  up_to-none (suc n) = ap (λ b. cond b None (kept_as g (suc n) (slice_get info.fields n))) (above 0 (suc n) (omega arith))

  -- all fields
  pub up_to-all : (n q : ℕ) → length info.fields ≤ n → up_to g info n q ≡ kept_as g q (numbered info.fields q)
  up_to-all n zero h = ap (λ b. cond b None None) (below n 0 (omega arith))
  up_to-all n (suc k) h = by_case (nat_lt n (suc k)) refl
    where
      by_case : (b : Bool) → nat_lt n (suc k) ≡ b → cond b None (kept_as g (suc k) (slice_get info.fields k)) ≡ kept_as g (suc k) (slice_get info.fields k)
      by_case true e = sym (ap (kept_as g (suc k)) (slice_get_past info.fields k (far (ltb-true n (suc k) e))))
        where
          far : n < suc k → length info.fields ≤ k
          far lt = omega arith
      by_case false e = refl

  -- one more field
  up_to-more : (i : ℕ) (w : Option Value) → kept_as g (i + 1) (numbered info.fields (i + 1)) ≡ w → (q : ℕ) → cond (eq_by_cmp nat_cmp (i + 1) q) w (up_to g info i q) ≡ up_to g info (i + 1) q
  up_to-more i w is q = by_case (eq_by_cmp nat_cmp (i + 1) q) refl
    where
      at : (k : ℕ) → Option Value
      at k = kept_as g k (numbered info.fields k)

      past : (b : Bool) → nat_lt (i + 1) q ≡ b → (i + 1 ≡ q → ⊥) → cond (nat_lt i q) None (at q) ≡ cond b None (at q)
      past true e differ = ap (λ b. cond b None (at q)) (above i q (near (ltb-true (i + 1) q e)))
        where
          near : i + 1 < q → i < q
          near lt = omega arith
      past false e differ = ap (λ b. cond b None (at q)) (below i q (near (ltb-false (i + 1) q e)))
        where
          near : q ≤ i + 1 → q ≤ i
          near le = by_order_of differ le
            where
              by_order_of : (i + 1 ≡ q → ⊥) → q ≤ i + 1 → q ≤ i
              by_order_of differ le = omega arith

      by_case : (b : Bool) → eq_by_cmp nat_cmp (i + 1) q ≡ b → cond b w (up_to g info i q) ≡ up_to g info (i + 1) q
      by_case true e =
          let same : i + 1 ≡ q = exact (i + 1) q e in
          sym is ∙ ap at same ∙ sym (ap (λ b. cond b None (at q)) (below (i + 1) q (omega arith)))
        where
          exact : (a b : ℕ) → eq_by_cmp nat_cmp a b ≡ true → a ≡ b
          exact a b e = tells_apart exact_unsigned a b e
      by_case false e = past (nat_lt (i + 1) q) refl (λ same. absurd (contrary (sym (itself (i + 1) q same) ∙ e)))
        where
          contrary : true ≡ false → ⊥
          contrary e = cc

  at_next : (i : ℕ) (field : FieldInfo) → slice_get info.fields i ≡ Some field → numbered info.fields (i + 1) ≡ Some field
  at_next i field is = ap (numbered info.fields) next ∙ is
    where
      next : i + 1 ≡ suc i
      next = omega arith

  -- a field that a row keeps
  pub up_to-kept : (old new : ℕ → Option Value) (i : ℕ) (field : FieldInfo) (v : Value) → slice_get info.fields i ≡ Some field → is_plain_kept field ≡ true → v ≡ g (i + 1, field)
      → ((q : ℕ) → old q ≡ up_to g info i q) → ((q : ℕ) → new q ≡ cond (eq_by_cmp nat_cmp (i + 1) q) (Some v) (old q)) → (q : ℕ) → new q ≡ up_to g info (i + 1) q
  up_to-kept old new i field v is kept same before set q =
      set q ∙ ap (cond (eq_by_cmp nat_cmp (i + 1) q) (Some v)) (before q)
      ∙ up_to-more i (Some v) (ap (kept_as g (i + 1)) (at_next i field is) ∙ ap (λ b. cond b (Some (g (i + 1, field))) None) kept ∙ ap Some (sym same)) q

  -- a field that no row keeps
  pub up_to-passed : (old : ℕ → Option Value) (i : ℕ) (field : FieldInfo) → slice_get info.fields i ≡ Some field → is_plain_kept field ≡ false
      → ((q : ℕ) → old q ≡ up_to g info i q) → (q : ℕ) → old q ≡ up_to g info (i + 1) q
  up_to-passed old i field is not_kept before q =
      before q ∙ by_case (eq_by_cmp nat_cmp (i + 1) q) refl
      ∙ up_to-more i None (ap (kept_as g (i + 1)) (at_next i field is) ∙ ap (λ b. cond b (Some (g (i + 1, field))) None) not_kept) q
    where
      by_case : (b : Bool) → eq_by_cmp nat_cmp (i + 1) q ≡ b → up_to g info i q ≡ cond b None (up_to g info i q)
      by_case true e = ap (λ b. cond b None (kept_as g q (numbered info.fields q))) (above i q (next (tells_apart exact_unsigned (i + 1) q e)))
        where
          next : i + 1 ≡ q → i < q
          next same = omega arith
      by_case false e = refl
