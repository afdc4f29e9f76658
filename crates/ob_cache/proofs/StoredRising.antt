-- What is tested of the rows that were read stands in the order of cells, and among it what is kept for each stored cell.
use Rattle.std.proofs.Common.{◌≡◌, ◌<◌, ◌≤◌, ◌+◌, ◌==◌, inl, inr, ℕ, Bool, true, false, cond, List, [], ◌∷◌, Option, Some, None, refl, sym, ap, subst, ◌∙◌, arith, eqb-true}
use Rattle.std.specs.List.{AllByRecursion, cons_option, filter_map, flat_map, zip}
use Rattle.std.specs.Map.{lookup}
use Rattle.std.specs.declared.cmp.Ordering.TheVariants.{Less}
use Rattle.std.proofs.lemmas.Option.{same_Some}
use Rattle.ob_base.specs.BrokenOrder.{cell_order}
use Rattle.ob_base.specs.declared.id.Cell.{Cell}
use Rattle.ob_base.specs.declared.id.ModelNo.{ModelNo}
use Rattle.ob_base.specs.declared.id.RecId.{RecId}
use Rattle.ob_base.specs.declared.value.Value.{Value}
use Rattle.ob_cache.specs.Reading.{EachBefore, IsBefore, IsOneOf, ReadRow, stored_of, tests_of}
use Rattle.ob_cache.proofs.CellOrder.{less-field, less-id, less-model, one-left, rising-appended}
use Rattle.ob_cache.proofs.Inconsistent.{one-of-flat}
use Rattle.ob_cache.proofs.KeptForms.{kept_ones}
use Rattle.ob_cache.proofs.OpenedTables.{of-one}
use Rattle.ob_cache.proofs.PagedRows.{one-right}
use Rattle.ob_schema.specs.Fields.{Column, is_kept, is_plain_kept}
use Rattle.ob_schema.specs.declared.info.FieldInfo.{FieldInfo}

-- a test of a cell before that of another
abbrev pub IsTestBefore : Cell × Value → Cell × Value → Type 0
IsTestBefore s t = cell_order s.0 t.0 ≡ Less

module _ (model : ModelNo) (id : RecId) where
  abbrev cell_at : ℕ → Cell
  cell_at n = record { model = model; id = id; field = record { 0 = n } }

  -- what is tested of a row's fields from a number on
  abbrev tests_from : ℕ → List FieldInfo → List Value → List (Cell × Value)
  tests_from n fields values = filter_map (stored_of model id) (zip (kept_ones n fields) values)

  -- it is of the row, and of a field from a number on
  pub record IsFrom (n : ℕ) (s : Cell × Value) : Type 0 where
    pub model_is : s.0.model ≡ model
    pub id_is : s.0.id ≡ id
    pub high : n ≤ s.0.field.0

  pub all-from : (k n : ℕ) → k ≤ n → (fields : List FieldInfo) (values : List Value) → AllByRecursion (IsFrom k) (tests_from n fields values)
  all-from k n low [] values = tt
  all-from k n low (f ∷ fields) values = by (is_kept f) values (λ others. all-from k (n + 1) (higher k n low) fields others)
    where
      higher : (k n : ℕ) → k ≤ n → k ≤ n + 1
      higher k n low = omega arith

      one : (b : Bool) (v : Value) (more : List (Cell × Value)) → AllByRecursion (IsFrom k) more → AllByRecursion (IsFrom k) (cons_option (cond b None (Some (cell_at n, v))) more)
      one true v more all = all
      one false v more all = (record { model_is = refl; id_is = refl; high = low }, all)

      by : (b : Bool) (values : List Value) → ((others : List Value) → AllByRecursion (IsFrom k) (tests_from (n + 1) fields others))
          → AllByRecursion (IsFrom k) (filter_map (stored_of model id) (zip (cond b ((n, f) ∷ kept_ones (n + 1) fields) (kept_ones (n + 1) fields)) values))
      by false values rest = rest values
      by true [] rest = tt
      by true (v ∷ values) rest = one (is_plain_kept f) v (tests_from (n + 1) fields values) (rest values)

  pub rising-from : (n : ℕ) (fields : List FieldInfo) (values : List Value) → EachBefore IsTestBefore (tests_from n fields values)
  rising-from n [] values = tt
  rising-from n (f ∷ fields) values = by (is_kept f) values (λ others. rising-from (n + 1) fields others)
    where
      higher : (a b : ℕ) → a + 1 ≤ b → a < b
      higher a b low = omega arith

      itself : (m : ℕ) → m ≤ m
      itself m = omega arith

      first : (v : Value) (more : List (Cell × Value)) → AllByRecursion (IsFrom (n + 1)) more → AllByRecursion (IsTestBefore (cell_at n, v)) more
      first v [] all = tt
      first v (s ∷ more) all =
          (less-field (cell_at n) s.0 (ap (λ (m : ModelNo). m.0) (sym all.0.model_is)) (ap (λ (i : RecId). i.0) (sym all.0.id_is)) (higher n s.0.field.0 all.0.high), first v more all.1)

      one : (b : Bool) (v : Value) (more : List (Cell × Value)) → AllByRecursion (IsFrom (n + 1)) more → EachBefore IsTestBefore more → EachBefore IsTestBefore (cons_option (cond b None (Some (cell_at n, v))) more)
      one true v more all rising = rising
      one false v more all rising = (first v more all, rising)

      by : (b : Bool) (values : List Value) → ((others : List Value) → EachBefore IsTestBefore (tests_from (n + 1) fields others))
          → EachBefore IsTestBefore (filter_map (stored_of model id) (zip (cond b ((n, f) ∷ kept_ones (n + 1) fields) (kept_ones (n + 1) fields)) values))
      by false values rest = rest values
      by true [] rest = tt
      by true (v ∷ values) rest = one (is_plain_kept f) v (tests_from (n + 1) fields values) (all-from (n + 1) (n + 1) (itself (n + 1)) fields values) (rest values)

  -- what is kept for a field that isn't plain is tested
  pub stored-among : (c : Column) (v : Value) (es : List (Column × Value)) → IsOneOf (c, v) es → is_plain_kept c.1 ≡ false → IsOneOf (cell_at c.0, v) (filter_map (stored_of model id) es)
  stored-among c v [] one plain = absurd one
  stored-among c v (e ∷ es) (inl is) plain =
      subst (λ (x : Column × Value). IsOneOf (cell_at c.0, v) (cons_option (stored_of model id x) (filter_map (stored_of model id) es))) is
      (subst (λ (b : Bool). IsOneOf (cell_at c.0, v) (cons_option (cond b None (Some (cell_at c.0, v))) (filter_map (stored_of model id) es))) (sym plain) (inl refl))
  stored-among c v (e ∷ es) (inr later) plain = by (stored_of model id e) (stored-among c v es later plain)
    where
      by : (o : Option (Cell × Value)) → IsOneOf (cell_at c.0, v) (filter_map (stored_of model id) es) → IsOneOf (cell_at c.0, v) (cons_option o (filter_map (stored_of model id) es))
      by None rest = rest
      by (Some s) rest = inr rest

-- what is looked up by a number is one of the entries
pub looked-up : (n : ℕ) (v : Value) (cols : List Column) (values : List Value) → lookup (λ (column : Column). column.0 == n) (zip cols values) ≡ Some v
    → (c : Column) × IsOneOf c cols × IsOneOf (c, v) (zip cols values) × (c.0 ≡ n)
looked-up n v [] values is = absurd cc
looked-up n v (c ∷ cols) [] is = absurd cc
looked-up n v (c ∷ cols) (w ∷ values) is = by (c.0 == n) refl is (looked-up n v cols values)
  where
    by : (b : Bool) → (c.0 == n) ≡ b → cond b (Some w) (lookup (λ (column : Column). column.0 == n) (zip cols values)) ≡ Some v
        → (lookup (λ (column : Column). column.0 == n) (zip cols values) ≡ Some v → (d : Column) × IsOneOf d cols × IsOneOf (d, v) (zip cols values) × (d.0 ≡ n))
        → (d : Column) × IsOneOf d (c ∷ cols) × IsOneOf (d, v) ((c, w) ∷ zip cols values) × (d.0 ≡ n)
    by true same found rest = (c, inl refl, inl (ap (λ (x : Value). (c, x)) (sym (same_Some w v found))), eqb-true c.0 n same)
    by false other found rest = let r = rest found in (r.0, inr r.1, inr r.2, r.3)

-- one of what is tested of a row is one of all
pub one-in-flat : {X Y : Type 0} (f : X → List Y) (y : Y) (x : X) (xs : List X) → IsOneOf x xs → IsOneOf y (f x) → IsOneOf y (flat_map f xs)
one-in-flat f y x [] among one = absurd among
one-in-flat f y x (z ∷ xs) (inl is) one = one-left y (f z) (flat_map f xs) (subst (λ (w : _). IsOneOf y (f w)) is one)
one-in-flat f y x (z ∷ xs) (inr later) one = one-right y (f z) (flat_map f xs) (one-in-flat f y x xs later one)

-- what is tested of rows in their order stands in the order of cells
pub tests-rise : (reads : List ReadRow) → EachBefore IsBefore reads → EachBefore IsTestBefore (flat_map tests_of reads)
tests-rise [] rising = tt
tests-rise (r ∷ reads) rising = rising-appended IsTestBefore (tests_of r) (flat_map tests_of reads) (rising-from r.model r.row.id 1 r.info.fields r.values) (tests-rise reads rising.1) across
  where
    own : (r : ReadRow) → AllByRecursion (IsFrom r.model r.row.id 1) (tests_of r)
    own r = all-from r.model r.row.id 1 1 (let same : 1 ≤ 1 = omega arith in same) r.info.fields r.values

    across : (s t : Cell × Value) → IsOneOf s (tests_of r) → IsOneOf t (flat_map tests_of reads) → IsTestBefore s t
    across s t one other =
        let (q, among, tested) = one-of-flat tests_of t reads other in
        let first = of-one (IsFrom r.model r.row.id 1) (tests_of r) s (own r) one in
        let second = of-one (IsFrom q.model q.row.id 1) (tests_of q) t (own q) tested in
        by q (of-one (IsBefore r) reads q rising.0 among) first second
      where
        by : (q : ReadRow) → IsBefore r q → IsFrom r.model r.row.id 1 s → IsFrom q.model q.row.id 1 t → IsTestBefore s t
        by q (inl less) first second = less-model s.0 t.0 (subst (λ (m : ModelNo). s.0.model.0 < m.0) (sym second.model_is) (subst (λ (m : ModelNo). m.0 < q.model.0) (sym first.model_is) less))
        by q (inr less) first second =
            less-id s.0 t.0 (ap (λ (m : ModelNo). m.0) first.model_is ∙ less.0 ∙ sym (ap (λ (m : ModelNo). m.0) second.model_is))
            (subst (λ (i : RecId). s.0.id.0 < i.0) (sym second.id_is) (subst (λ (i : RecId). i.0 < q.row.id.0) (sym first.id_is) less.1))
