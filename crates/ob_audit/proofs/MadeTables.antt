-- The tables that rows make which were read.
use Rattle.std.proofs.Common.{◌≡◌, ◌≢◌, ◌+◌, ◌-◌, ◌^◌, ◌<◌, ◌⊎◌, inl, inr, ℕ, zero, suc, Bool, true, false, cond, List, [], ◌∷◌, map, filter, length, get_or, max, Option, Some, None, unwrap_or, refl, sym, ap, subst, ◌∙◌, arith}
use Rattle.std.specs.Prelude.{All, AllPairs, IsSomeAnd}
use Rattle.std.specs.FinMap as finite
use Rattle.std.specs.Option.{option_map_or}
use Rattle.std.specs.List.{AllByRecursion, filter_map}
use Rattle.std.specs.Ordering.{eq_by_cmp, is_eq, nat_cmp}
use Rattle.std.specs.Cmp.{nat_cmp_total, tied_itself}
use Rattle.std.proofs.lemmas.Grind.{common_steps}
use Rattle.std.proofs.lemmas.Map.Lookups.{exact_unsigned}
use Rattle.std.proofs.lemmas.Map.Views.{tells_apart}
use Rattle.std.proofs.lemmas.List.Elements.{All-nil, All-cons}
use Rattle.ob_base.specs.Ids.{row_key_cmp}
use Rattle.ob_base.specs.declared.id.FieldNo.{FieldNo}
use Rattle.ob_base.specs.declared.id.ModelNo.{ModelNo}
use Rattle.ob_base.specs.declared.id.RecId.{RecId}
use Rattle.ob_base.specs.declared.id.RowKey.{RowKey}
use Rattle.ob_base.specs.declared.value.Value.{Value}
use Rattle.ob_base.specs.declared.value.Value.TheVariants as value
use Rattle.ob_audit.specs.Rows.{kept_columns}
use Rattle.ob_audit.specs.Rows.{plain_row}
use Rattle.ob_audit.specs.Reading.{IsOneOf, IsReadRow, ReadRow, edit_of, entries, given_of}
use Rattle.ob_audit.proofs.KeptForms.{IsColumn, columns-at, each-back, each_of, given-are, kept_ones, made-row, plain-kept, plain_ones}
use Rattle.ob_audit.proofs.ModelFields.{numbered-front}
use Rattle.ob_codec.specs.RowForm.{HoldAll}
use Rattle.ob_definition.specs.Values.{HasType, IsValueOf}
use Rattle.ob_definition.specs.declared.field_type.Choice.{Choice}
use Rattle.ob_definition.specs.declared.field_type.FieldType.{FieldType}
use Rattle.ob_definition.specs.declared.field_type.FieldType.TheVariants as type
use Rattle.ob_schema.specs.Built.{numbered}
use Rattle.ob_schema.specs.Fields.{Column, Holds, is_kept, is_plain_kept, kept_fields, plain_columns}
use Rattle.ob_schema.specs.Models.{fields_of, model_at}
use Rattle.ob_schema.specs.Tables.{PlainRow, Tables, key_of, next_of, row_at}
use Rattle.ob_schema.specs.declared.info.FieldInfo.{FieldInfo}
use Rattle.ob_schema.specs.declared.info.ModelInfo.{ModelInfo}
use Rattle.ob_tables.specs.After.{after, edited, row_of, with_row}
use Rattle.ob_tables.specs.Fitting.{AreFitValues, IsFitEdit, IsFitIn}
use Rattle.ob_tables.proofs.CallerLemmas.{exact_rows, rows_total, tell_and}

-- ---- rows

-- the row that a row makes which was read
abbrev pub row_for : ReadRow → PlainRow
row_for r = row_of r.info (filter_map given_of (entries r.info.fields r.values))

-- it has the plain ones of its values
pub row_for-plain : (r : ReadRow) → HoldAll (kept_fields r.info) r.values → row_for r ≡ plain_row r.info r.values
row_for-plain r holds =
    let back = each-back r.info r.values holds in
    subst (λ (vs : List Value). row_of r.info (filter_map given_of (entries r.info.fields vs)) ≡ plain_row r.info vs) back (made-row r.info (each_of r.info r.values))

module _ (models : List ModelInfo) (model : ModelNo) (id : RecId) where
  -- whether it is this row
  abbrev pub is_it : ReadRow → Bool
  is_it r = eq_by_cmp row_key_cmp (key_of model id) (key_of r.model r.row.id)

  pub it-is : (r : ReadRow) → r.model ≡ model → r.row.id ≡ id → is_it r ≡ true
  it-is r model_is id_is = ap (λ (k : RowKey). eq_by_cmp row_key_cmp (key_of model id) k) (λ i. key_of (model_is i) (id_is i)) ∙ ap is_eq (tied_itself rows_total (key_of model id))

  pub is-it : (r : ReadRow) → is_it r ≡ true → (r.model ≡ model) × (r.row.id ≡ id)
  is-it r is = let same : key_of model id ≡ key_of r.model r.row.id = tells_apart exact_rows (key_of model id) (key_of r.model r.row.id) is in (sym (ap (λ (k : RowKey). k.model) same), sym (ap (λ (k : RowKey). k.id) same))

  -- one edit
  row-edited : (t : Tables) (r : ReadRow) → model_at models r.model ≡ Some r.info → row_at (edited models t (edit_of r)) model id ≡ cond (is_it r) (Some (row_for r)) (row_at t model id)
  row-edited t r is =
      ap (λ (o : Option ModelInfo). row_at (option_map_or (λ (info : ModelInfo). with_row models r.model r.row.id (row_of info (filter_map given_of (entries r.info.fields r.values))) t) o t) model id) is
      ∙ finite.get-insert rows_total t.rows (key_of r.model r.row.id) (row_for r) (key_of model id)

  -- some edits make the row, all of them alike
  pub after-some : (row : PlainRow) (reads : List ReadRow) (t : Tables) → AllByRecursion (λ r. model_at models r.model ≡ Some r.info) reads → AllByRecursion (λ r. is_it r ≡ true → row_for r ≡ row) reads
      → (row_at t model id ≡ Some row) ⊎ ((r : ReadRow) × IsOneOf r reads × (is_it r ≡ true)) → row_at (after models t (map edit_of reads)) model id ≡ Some row
  after-some row [] t infos alike (inl there) = there
  after-some row [] t infos alike (inr one) = absurd one.1
  after-some row (r ∷ reads) t infos alike there = after-some row reads (edited models t (edit_of r)) infos.1 alike.1 (by (is_it r) refl there)
    where
      by : (b : Bool) → is_it r ≡ b → (row_at t model id ≡ Some row) ⊎ ((one : ReadRow) × IsOneOf one (r ∷ reads) × (is_it one ≡ true))
          → (row_at (edited models t (edit_of r)) model id ≡ Some row) ⊎ ((one : ReadRow) × IsOneOf one reads × (is_it one ≡ true))
      by true is there = inl (row-edited t r infos.0 ∙ ap (λ (b : Bool). cond b (Some (row_for r)) (row_at t model id)) is ∙ ap Some (alike.0 is))
      by false is (inl there) = inl (row-edited t r infos.0 ∙ ap (λ (b : Bool). cond b (Some (row_for r)) (row_at t model id)) is ∙ there)
      by false is (inr (one, inl same, it)) = absurd (let both : false ≡ true = sym is ∙ sym (ap is_it same) ∙ it in cc)
      by false is (inr (one, inr later, it)) = inr (one, later, it)

  -- none does
  pub after-none : (reads : List ReadRow) (t : Tables) → AllByRecursion (λ r. model_at models r.model ≡ Some r.info) reads → AllByRecursion (λ r. is_it r ≡ false) reads
      → row_at t model id ≡ None → row_at (after models t (map edit_of reads)) model id ≡ None
  after-none [] t infos others none = none
  after-none (r ∷ reads) t infos others none =
      after-none reads (edited models t (edit_of r)) infos.1 others.1 (row-edited t r infos.0 ∙ ap (λ (b : Bool). cond b (Some (row_for r)) (row_at t model id)) others.0 ∙ none)

-- ---- next ids

module _ (models : List ModelInfo) where
  same_test : (a b : ℕ) → (eq_by_cmp nat_cmp a b ≡ true) → a ≡ b
  same_test a b is = tells_apart exact_unsigned a b is

  raised : (n i : ℕ) → i < n → max n (i + 1) ≡ n
  raised n i low = grind (arith, common_steps)

  next-edited : (t : Tables) (r : ReadRow) (model : ModelNo) → model_at models r.model ≡ Some r.info → r.row.id.0 < next_of t r.model → next_of (edited models t (edit_of r)) model ≡ next_of t model
  next-edited t r model is low =
      ap (λ (o : Option ModelInfo). next_of (option_map_or (λ (info : ModelInfo). with_row models r.model r.row.id (row_of info (filter_map given_of (entries r.info.fields r.values))) t) o t) model) is
      ∙ ap (λ (o : Option ℕ). unwrap_or o 1) (finite.get-insert nat_cmp_total t.next_ids r.model.0 (max (next_of t r.model) (r.row.id.0 + 1)) model.0)
      ∙ by (eq_by_cmp nat_cmp model.0 r.model.0) refl
    where
      by : (b : Bool) → eq_by_cmp nat_cmp model.0 r.model.0 ≡ b → unwrap_or (cond b (Some (max (next_of t r.model) (r.row.id.0 + 1))) (finite.get t.next_ids model.0)) 1 ≡ next_of t model
      by true same = raised (next_of t r.model) r.row.id.0 low ∙ ap (λ (n : ℕ). unwrap_or (finite.get t.next_ids n) 1) (sym (same_test model.0 r.model.0 same))
      by false same = refl

  -- rows below the next ids leave these as they are
  pub next-after : (reads : List ReadRow) (t : Tables) (model : ModelNo) → AllByRecursion (λ r. (model_at models r.model ≡ Some r.info) × (r.row.id.0 < next_of t r.model)) reads
      → next_of (after models t (map edit_of reads)) model ≡ next_of t model
  next-after [] t model below = refl
  next-after (r ∷ reads) t model below =
      next-after reads (edited models t (edit_of r)) model (later reads below.1) ∙ next-edited t r model below.0.0 below.0.1
    where
      later : (rest : List ReadRow) → AllByRecursion (λ s. (model_at models s.model ≡ Some s.info) × (s.row.id.0 < next_of t s.model)) rest
          → AllByRecursion (λ s. (model_at models s.model ≡ Some s.info) × (s.row.id.0 < next_of (edited models t (edit_of r)) s.model)) rest
      later [] all = tt
      later (s ∷ rest) all = ((all.0.0, subst (λ (n : ℕ). s.row.id.0 < n) (sym (next-edited t r s.model below.0.0 below.0.1)) all.0.1), later rest all.1)

-- ---- edits that fit

-- a value that a field may hold is one of its type
pub holds-given : (t : FieldType) (choices : List Choice) (v : Value) → IsValueOf t choices v → HasType t choices v
holds-given type.Many2one choices (value.Ref id) holds = tt
holds-given type.Many2one choices _ holds = holds
holds-given type.One2many choices (value.Refs ids) holds = holds.rising
holds-given type.One2many choices _ holds = holds
holds-given type.Many2many choices (value.Refs ids) holds = holds.0.rising
holds-given type.Many2many choices _ holds = holds
holds-given type.Boolean choices v holds = holds
holds-given type.Integer choices v holds = holds
holds-given type.Char choices v holds = holds
holds-given type.Text choices v holds = holds
holds-given type.Date choices v holds = holds
holds-given type.Datetime choices v holds = holds
holds-given type.Selection choices v holds = holds

-- values that hold, column by column
pub plain-hold : (g : Column → Value) (n : ℕ) (fields : List FieldInfo) → HoldAll (filter is_kept fields) (map g (kept_ones n fields)) → AllByRecursion (λ c. Holds c.1 (g c)) (plain_ones n fields)
plain-hold g n [] holds = tt
plain-hold g n (f ∷ fields) holds = by (is_kept f) (is_plain_kept f) (plain-kept f) holds (plain-hold g (n + 1) fields)
  where
    by : (k p : Bool) → (p ≡ true → k ≡ true) → HoldAll (cond k (f ∷ filter is_kept fields) (filter is_kept fields)) (map g (cond k ((n, f) ∷ kept_ones (n + 1) fields) (kept_ones (n + 1) fields)))
        → (HoldAll (filter is_kept fields) (map g (kept_ones (n + 1) fields)) → AllByRecursion (λ c. Holds c.1 (g c)) (plain_ones (n + 1) fields))
        → AllByRecursion (λ c. Holds c.1 (g c)) (cond p ((n, f) ∷ plain_ones (n + 1) fields) (plain_ones (n + 1) fields))
    by true true both holds later = (holds.0, later holds.1)
    by true false both holds later = later holds.1
    by false true both holds later = absurd (let not : false ≡ true = both refl in cc)
    by false false both holds later = later holds

-- numbers rise
plain-above : (from n : ℕ) (fields : List FieldInfo) → from < n → AllByRecursion (λ c. from < c.0) (plain_ones n fields)
plain-above from n [] low = tt
plain-above from n (f ∷ fields) low = by (is_plain_kept f) (plain-above from (n + 1) fields (omega arith))
  where
    by : (b : Bool) → AllByRecursion (λ c. from < c.0) (plain_ones (n + 1) fields) → AllByRecursion (λ c. from < c.0) (cond b ((n, f) ∷ plain_ones (n + 1) fields) (plain_ones (n + 1) fields))
    by true rest = (low, rest)
    by false rest = rest

module _ (g : Column → Value) where
  abbrev given_for_column : Column → FieldNo × Value
  given_for_column column = (record { 0 = column.0 }, g column)

  -- so the fields that are given are apart
  others-apart : (n : ℕ) (cols : List Column) → AllByRecursion (λ c. n < c.0) cols → (k : ℕ) (d : FieldNo × Value) → k < length (map given_for_column cols) → n < (get_or (map given_for_column cols) k d).0.0
  others-apart n [] above k d low = absurd (omega arith)
  others-apart n (c ∷ cols) above zero d low = above.0
  others-apart n (c ∷ cols) above (suc k) d low = others-apart n cols above.1 k d (omega arith)

  cons-apart : (c : Column) (cols : List Column) → AllByRecursion (λ e. c.0 < e.0) cols → AllPairs (λ a b. a.0 ≢ b.0) (map given_for_column cols) → AllPairs (λ a b. a.0 ≢ b.0) (map given_for_column (c ∷ cols))
  cons-apart c cols above apart zero zero d low within = absurd (omega arith)
  cons-apart c cols above apart zero (suc j) d low within =
      λ same. absurd (let far = others-apart c.0 cols above j d (omega arith) in let one : c.0 ≡ (get_or (map given_for_column cols) j d).0.0 = ap (λ (f : FieldNo). f.0) same in omega arith)
  cons-apart c cols above apart (suc i) zero d low within = absurd (omega arith)
  cons-apart c cols above apart (suc i) (suc j) d low within = apart i j d (omega arith) (omega arith)

  plain-apart : (n : ℕ) (fields : List FieldInfo) → AllPairs (λ a b. a.0 ≢ b.0) (map given_for_column (plain_ones n fields))
  plain-apart n [] = λ i j d low within. absurd (no j within)
    where
      no : (j : ℕ) → j < 0 → ⊥
      no j within = omega arith
  plain-apart n (f ∷ fields) = by (is_plain_kept f) (plain-apart (n + 1) fields)
    where
      by : (b : Bool) → AllPairs (λ x y. x.0 ≢ y.0) (map given_for_column (plain_ones (n + 1) fields)) → AllPairs (λ x y. x.0 ≢ y.0) (map given_for_column (cond b ((n, f) ∷ plain_ones (n + 1) fields) (plain_ones (n + 1) fields)))
      by true rest = cons-apart (n, f) (plain_ones (n + 1) fields) (plain-above n (n + 1) fields (omega arith)) rest
      by false rest = rest

module _ (info : ModelInfo) (g : Column → Value) where
  abbrev is_fit : FieldNo × Value → Type 0
  is_fit given = IsSomeAnd (numbered (fields_of info) given.0.0) (λ field. IsFitIn field given.1)

  each-fit : (cols : List Column) → AllByRecursion (IsColumn is_plain_kept info.fields) cols → AllByRecursion (λ c. Holds c.1 (g c)) cols → All is_fit (map (given_for_column g) cols)
  each-fit [] at holds = All-nil is_fit
  each-fit (c ∷ cols) at holds =
      All-cons is_fit (given_for_column g c) (map (given_for_column g) cols)
      (tell_and (numbered (fields_of info) c.0) c.1 (λ field. IsFitIn field (g c)) (numbered-front info.fields info.hidden c.0 c.1 at.0.at) (at.0.passes, holds-given c.1.field_type c.1.selection (g c) holds.0))
      (each-fit cols at.1 holds.1)

  values-fit : HoldAll (kept_fields info) (map g (kept_columns info)) → AreFitValues info (filter_map given_of (entries info.fields (map g (kept_columns info))))
  values-fit holds =
      subst (AreFitValues info) (sym (given-are info g))
      (each-fit (plain_columns info) (columns-at is_plain_kept info) (plain-hold g 1 info.fields holds), plain-apart g 1 info.fields)

-- a row that was read makes an edit that fits
pub edit-fit : (models : List ModelInfo) (model : ModelNo) (next : ℕ) (r : ReadRow) → next < 2 ^ 63 → IsReadRow models model next r → IsFitEdit models (edit_of r)
edit-fit models model next r low read = (
  by next r.row.id.0 low read.below,
  tell_and (model_at models r.model) r.info (λ info. AreFitValues info (filter_map given_of (entries r.info.fields r.values))) read.info_is
      (subst (λ (vs : List Value). AreFitValues r.info (filter_map given_of (entries r.info.fields vs))) (each-back r.info r.values read.read_as.hold)
      (values-fit r.info (each_of r.info r.values) (subst (HoldAll (kept_fields r.info)) (sym (each-back r.info r.values read.read_as.hold)) read.read_as.hold))),
)
  where
    by : (n i : ℕ) → n < 2 ^ 63 → i < n → i < 2 ^ 64 - 1
    by n i low below = omega arith
