-- What is tested of the rows that were read: of each it is kept for a stored cell, and the field may hold it.
use Rattle.std.proofs.Common.{◌≡◌, ◌==◌, ◌⊎◌, ◌++◌, ◌+◌, inl, inr, ℕ, Bool, true, false, cond, List, [], ◌∷◌, map, filter, Some, None, refl, sym, ap, subst, ◌∙◌, eqb-true, eq-eqb}
use Rattle.std.specs.List.{AllByRecursion, cons_option, filter_map, flat_map}
use Rattle.std.specs.Map.{lookup}
use Rattle.std.proofs.lemmas.Option.{same_Some}
use Rattle.ob_base.specs.declared.id.Cell.{Cell}
use Rattle.ob_base.specs.declared.id.ModelNo.{ModelNo}
use Rattle.ob_base.specs.declared.id.RecId.{RecId}
use Rattle.ob_base.specs.declared.value.Value.{Value}
use Rattle.ob_audit.specs.Reading.{IsFitStored, IsOneOf, IsReadRow, ReadRow, entries, stored_of, tests_of}
use Rattle.ob_audit.specs.Rows.{Keeps, kept_columns, kept_for}
use Rattle.ob_audit.proofs.KeptForms.{IsColumn, columns-at, each-back, each_of, kept_ones, with_values, zip-map}
use Rattle.ob_audit.proofs.ModelFields.{field-of}
use Rattle.ob_audit.proofs.StoreTables.{of-one}
use Rattle.ob_codec.specs.RowForm.{HoldAll}
use Rattle.ob_io.specs.Store.{Store, row_at as kept_row_at}
use Rattle.ob_schema.specs.Built.{numbered}
use Rattle.ob_schema.specs.Fields.{Column, Holds, is_kept, is_plain_kept, kept_fields}
use Rattle.ob_schema.specs.Models.{field_at}
use Rattle.ob_schema.specs.declared.info.FieldInfo.{FieldInfo}
use Rattle.ob_schema.specs.declared.info.ModelInfo.{ModelInfo}
use Rattle.ob_tables.proofs.CallerLemmas.{tell_and}

-- ---- lists

one-left-or-right : {X : Type 0} (x : X) (xs ys : List X) → IsOneOf x (xs ++ ys) → IsOneOf x xs ⊎ IsOneOf x ys
one-left-or-right x [] ys one = inr one
one-left-or-right x (y ∷ xs) ys (inl is) = inl (inl is)
one-left-or-right x (y ∷ xs) ys (inr later) = by (one-left-or-right x xs ys later)
  where
    by : IsOneOf x xs ⊎ IsOneOf x ys → IsOneOf x (y ∷ xs) ⊎ IsOneOf x ys
    by (inl left) = inl (inr left)
    by (inr right) = inr right

pub one-of-flat : {X Y : Type 0} (f : X → List Y) (y : Y) (xs : List X) → IsOneOf y (flat_map f xs) → (x : X) × IsOneOf x xs × IsOneOf y (f x)
one-of-flat f y [] one = absurd one
one-of-flat {X = X} f y (x ∷ xs) one = by (one-left-or-right y (f x) (flat_map f xs) one) (λ later. one-of-flat f y xs later)
  where
    by : IsOneOf y (f x) ⊎ IsOneOf y (flat_map f xs) → (IsOneOf y (flat_map f xs) → (z : X) × IsOneOf z xs × IsOneOf y (f z)) → (z : X) × IsOneOf z (x ∷ xs) × IsOneOf y (f z)
    by (inl here) rest = (x, inl refl, here)
    by (inr later) rest = let r = rest later in (r.0, inr r.1, r.2)

module _ (model : ModelNo) (id : RecId) (g : Column → Value) where
  -- what is tested of a column
  abbrev pub test_of : Column → Cell × Value
  test_of c = (record { model = model; id = id; field = record { 0 = c.0 } }, g c)

  one-stored : (s : Cell × Value) (cols : List Column) → IsOneOf s (filter_map (stored_of model id) (with_values g cols)) → (c : Column) × IsOneOf c cols × (is_plain_kept c.1 ≡ false) × (s ≡ test_of c)
  one-stored s [] one = absurd one
  one-stored s (c ∷ cols) one = by (is_plain_kept c.1) refl one (one-stored s cols)
    where
      by : (b : Bool) → is_plain_kept c.1 ≡ b → IsOneOf s (cons_option (cond b None (Some (test_of c))) (filter_map (stored_of model id) (with_values g cols)))
          → (IsOneOf s (filter_map (stored_of model id) (with_values g cols)) → (d : Column) × IsOneOf d cols × (is_plain_kept d.1 ≡ false) × (s ≡ test_of d))
          → (d : Column) × IsOneOf d (c ∷ cols) × (is_plain_kept d.1 ≡ false) × (s ≡ test_of d)
      by true plain one rest = let r = rest one in (r.0, inr r.1, r.2, r.3)
      by false plain (inl is) rest = (c, inl refl, plain, is)
      by false plain (inr later) rest = let r = rest later in (r.0, inr r.1, r.2, r.3)

-- a column is found by its number
found-column : (fields : List FieldInfo) (g : Column → Value) (c : Column) (cols : List Column) → IsColumn is_kept fields c → AllByRecursion (IsColumn is_kept fields) cols → IsOneOf c cols
    → lookup (λ (d : Column). d.0 == c.0) (with_values g cols) ≡ Some (g c)
found-column fields g c [] at all one = absurd one
found-column fields g c (d ∷ cols) at all one = by (d.0 == c.0) refl one (λ later. found-column fields g c cols at all.1 later)
  where
    by : (b : Bool) → (d.0 == c.0) ≡ b → IsOneOf c (d ∷ cols) → (IsOneOf c cols → lookup (λ (e : Column). e.0 == c.0) (with_values g cols) ≡ Some (g c))
        → cond b (Some (g d)) (lookup (λ (e : Column). e.0 == c.0) (with_values g cols)) ≡ Some (g c)
    by true same one rest =
        let number : d.0 ≡ c.0 = eqb-true d.0 c.0 same in
        let field : d.1 ≡ c.1 = same_Some d.1 c.1 (sym all.0.at ∙ ap (λ (n : ℕ). numbered fields n) number ∙ at.at) in
        λ i. Some (g (number i, field i))
    by false other (inl is) rest = absurd (let both : false ≡ true = sym other ∙ eq-eqb d.0 c.0 (ap (λ (e : Column). e.0) (sym is)) in cc)
    by false other (inr later) rest = rest later

-- values that hold, column by column
holds-each : (g : Column → Value) (n : ℕ) (fields : List FieldInfo) → HoldAll (filter is_kept fields) (map g (kept_ones n fields)) → AllByRecursion (λ c. Holds c.1 (g c)) (kept_ones n fields)
holds-each g n [] holds = tt
holds-each g n (f ∷ fields) holds = by (is_kept f) holds (holds-each g (n + 1) fields)
  where
    by : (b : Bool) → HoldAll (cond b (f ∷ filter is_kept fields) (filter is_kept fields)) (map g (cond b ((n, f) ∷ kept_ones (n + 1) fields) (kept_ones (n + 1) fields)))
        → (HoldAll (filter is_kept fields) (map g (kept_ones (n + 1) fields)) → AllByRecursion (λ c. Holds c.1 (g c)) (kept_ones (n + 1) fields))
        → AllByRecursion (λ c. Holds c.1 (g c)) (cond b ((n, f) ∷ kept_ones (n + 1) fields) (kept_ones (n + 1) fields))
    by true holds later = (holds.0, later holds.1)
    by false holds later = later holds

-- ---- rows that were read

-- what is tested of a row, by its columns
entries-are : (r : ReadRow) → HoldAll (kept_fields r.info) r.values → entries r.info.fields r.values ≡ with_values (each_of r.info r.values) (kept_columns r.info)
entries-are r hold = ap (entries r.info.fields) (sym (each-back r.info r.values hold)) ∙ zip-map (each_of r.info r.values) (kept_columns r.info)

module _ (models : List ModelInfo) (next : ℕ) (r : ReadRow) (read : IsReadRow models r.model next r) where
  column-of : (s : Cell × Value) → IsOneOf s (tests_of r)
      → (c : Column) × IsOneOf c (kept_columns r.info) × (is_plain_kept c.1 ≡ false) × (s ≡ test_of r.model r.row.id (each_of r.info r.values) c)
  column-of s tested =
      one-stored r.model r.row.id (each_of r.info r.values) s (kept_columns r.info)
      (subst (λ (es : List (Column × Value)). IsOneOf s (filter_map (stored_of r.model r.row.id) es)) (entries-are r read.read_as.hold) tested)

  -- its field may hold it
  pub test-fits : (s : Cell × Value) → IsOneOf s (tests_of r) → IsFitStored models s
  test-fits s tested =
      let g = each_of r.info r.values in
      let (c, among, other, same) = column-of s tested in
      let column = of-one (IsColumn is_kept r.info.fields) (kept_columns r.info) c (columns-at is_kept r.info) among in
      let holds = of-one (λ d. Holds d.1 (g d)) (kept_columns r.info) c
      (holds-each g 1 r.info.fields (subst (HoldAll (kept_fields r.info)) (sym (each-back r.info r.values read.read_as.hold)) read.read_as.hold)) among in
      subst (IsFitStored models) (sym same)
      (tell_and (field_at models r.model (record { 0 = c.0 })) c.1 (λ field. Holds field (g c)) (field-of models r.model r.info c.0 c.1 read.info_is column.at) holds)

  -- the row keeps it
  pub test-kept : (store : Store) → kept_row_at store r.model r.row.id ≡ Some r.row → (s : Cell × Value) → IsOneOf s (tests_of r) → Keeps models store s.0 s.1
  test-kept store kept_is s tested =
      let g = each_of r.info r.values in
      let (c, among, other, same) = column-of s tested in
      let column = of-one (IsColumn is_kept r.info.fields) (kept_columns r.info) c (columns-at is_kept r.info) among in
      let found : kept_for r.info r.values (record { 0 = c.0 }) ≡ Some (g c) =
      ap (lookup (λ (d : Column). d.0 == c.0)) (entries-are r read.read_as.hold) ∙ found-column r.info.fields g c (kept_columns r.info) column (columns-at is_kept r.info) among in
      subst (λ (t : Cell × Value). Keeps models store t.0 t.1) (sym same)
      (record { info = r.info; info_is = read.info_is; kept = r.row; kept_is = kept_is; values = r.values; read_as = read.read_as; value_is = found })
