-- Edits that fit keep tables fit.
use Rattle.std.proofs.Common.{◌≡◌, ◌↔◌, ◌<◌, ◌≤◌, ◌++◌, ℕ, zero, suc, ◌==◌, Bool, true, false, not, ◌&&◌, cond, List, [], ◌∷◌, Option, Some, None, option_and_then, option_map, unwrap_or, is_none}
use Rattle.std.proofs.Common.{is_some, IsSome, pos, rules, refl, sym, ap, subst, ◌∙◌, arith}
use Rattle.std.specs.Option.{IfSome, IsSomeAnd}
use Rattle.std.specs.List.{All, slice_get}
use Rattle.std.specs.declared.cmp.Ordering.{Ordering}
use Rattle.std.specs.Ordering.{nat_cmp, eq_by_cmp}
use Rattle.std.specs.Cmp.{IsTotalOrder, nat_cmp_total}
use Rattle.std.specs.FinMap as finite
use Rattle.std.specs.Map.{lookup}
use Rattle.std.specs.BTreeMap.{BTreeMap, is_at}
use Rattle.std.proofs.lemmas.Bool.{eqb-true}
use Rattle.std.proofs.lemmas.List.Elements.{All-head, All-tail}
use Rattle.std.proofs.lemmas.Map.Lookups.{CmpEqualImpliesEq, exact_unsigned}
use Rattle.std.proofs.lemmas.Map.Views.{tells_apart}
use Rattle.ob_base.specs.declared.id.FieldNo.{FieldNo}
use Rattle.ob_base.specs.declared.id.ModelNo.{ModelNo}
use Rattle.ob_base.specs.declared.id.RecId.{RecId}
use Rattle.ob_base.specs.declared.value.Value.{Value}
use Rattle.ob_base.specs.declared.value.Value.TheVariants as value
use Rattle.ob_definition.specs.declared.field_type.FieldType.{FieldType}
use Rattle.ob_definition.specs.declared.field_type.FieldType.TheVariants as type
use Rattle.ob_definition.specs.Types.{is_one2many}
use Rattle.ob_base.specs.declared.id.RowKey.{RowKey}
use Rattle.ob_base.specs.Ids.{row_key_cmp}
use Rattle.ob_schema.specs.Built.{numbered}
use Rattle.ob_schema.specs.Fields.{is_plain_from, is_plain_kept}
use Rattle.ob_schema.specs.Models.{HasModel, IsCondition, field_at, fields_of, model_at}
use Rattle.ob_schema.specs.declared.info.FieldInfo.{FieldInfo}
use Rattle.ob_schema.specs.declared.info.ModelInfo.{ModelInfo}
use Rattle.ob_definition.specs.Values.{HasType, initial_value}
use Rattle.ob_tables.specs.After.{given_for, row_of}
use Rattle.ob_tables.specs.Fitting.{AreFitValues, IsFitIn}
use Rattle.ob_schema.specs.Fields.{IsGivable}
use Rattle.ob_tables.specs.Rooms.{shown_row, shown_rows, shown_tables}
use Rattle.ob_schema.specs.Tables.{Fits, IsRowOf, PlainRow, Tables, key_of, next_of, row_at}
use Rattle.ob_tables.proofs.Shown.{exact_rows, get-shown_next_ids, get-shown_rows, next_or_one, rows_total}
use Rattle.ob_tables.proofs.Columns.{get-row_of, keeps, kept_as, row-from, row-has, row_of-IsRowOf}
use Rattle.ob_tables.proofs.GivenValues.{keeps-fields}

module _ {K X : Type 0} {R : K → K → Ordering} (o : IsTotalOrder R) (exact : CmpEqualImpliesEq R) (P : K → X → Type 0) (m : finite.FinMap R X) (k : K) where
  one_set : (b : Bool) (q : K) (x : X) (old : Option X) → (b ≡ true → q ≡ k) → P k x → IfSome old (P q) → IfSome (cond b (Some x) old) (P q)
  one_set true q x old same here others = subst (λ k. P k x) (sym (same refl)) here
  one_set false q x old same here others = others

  -- what holds of the value of each key holds once a value for which it holds is inserted
  pub all-insert : (x : X) → P k x → ((q : K) → IfSome (finite.get m q) (P q)) → (q : K) → IfSome (finite.get (finite.insert m k x) q) (P q)
  all-insert x here others q = subst (λ w. IfSome w (P q)) (sym (finite.get-insert o m k x q)) (one_set (eq_by_cmp R q k) q x (finite.get m q) (tells_apart exact q k) here (others q))

  one_gone : (b : Bool) (q : K) (old : Option X) → IfSome old (P q) → IfSome (cond b None old) (P q)
  one_gone true q old others = tt
  one_gone false q old others = others

  -- and once one is removed
  pub all-remove : ((q : K) → IfSome (finite.get m q) (P q)) → (q : K) → IfSome (finite.get (finite.remove m k) q) (P q)
  all-remove others q = subst (λ w. IfSome w (P q)) (sym (finite.get-remove o m k q)) (one_gone (eq_by_cmp R q k) q (finite.get m q) (others q))

if_there : {X : Type 0} (P : Type 0) (l : Option X) → IfSome l (λ _. P) → IsSome l → P
if_there P None h there = cc
if_there P (Some x) h there = h

there_if : {X : Type 0} (P : Type 0) (l : Option X) → (IsSome l → P) → IfSome l (λ _. P)
there_if P None h = tt
there_if P (Some x) h = h refl

-- the tables with other rows
abbrev pub with_rows : Tables → finite.FinMap row_key_cmp PlainRow → Tables
with_rows t rows = record { rows = rows; next_ids = t.next_ids }

module _ (models : List ModelInfo) (t : Tables) where
  -- each value is one of the field's
  abbrev pub AreGivable : ModelNo → PlainRow → Type 0
  AreGivable model row = (field : FieldNo) → IfSome (finite.get row field.0) (λ v. IsSomeAnd (field_at models model field) (λ info. IsGivable info v))

  -- a row that may stand at the key
  pub record IsFitRow (key : RowKey) (row : PlainRow) : Type 0 where
    pub shape : IsSomeAnd (model_at models key.model) (λ info. IsRowOf info row)
    pub values : AreGivable key.model row
    pub below : key.id.0 < next_of t key.model

  if_all : (key : RowKey) (l : Option PlainRow) → IfSome l (λ row. IsSomeAnd (model_at models key.model) (λ info. IsRowOf info row))
      → ((field : FieldNo) → IfSome l (λ row. IfSome (finite.get row field.0) (λ v. IsSomeAnd (field_at models key.model field) (λ info. IsGivable info v)))) → (IsSome l → key.id.0 < next_of t key.model)
      → IfSome l (IsFitRow key)
  if_all key None s v b = tt
  if_all key (Some row) s v b = record { shape = s; values = v; below = b refl }

  -- each row that is there may stand there
  pub rows-fit : Fits models t → (key : RowKey) → IfSome (finite.get t.rows key) (IsFitRow key)
  rows-fit fits key = if_all key (finite.get t.rows key) (fits.rows key.model key.id) (fits.values key.model key.id) (fits.above key.model key.id)

  its_shape : (key : RowKey) (l : Option PlainRow) → IfSome l (IsFitRow key) → IfSome l (λ row. IsSomeAnd (model_at models key.model) (λ info. IsRowOf info row))
  its_shape key None h = tt
  its_shape key (Some row) h = h.shape

  its_value : (key : RowKey) (field : FieldNo) (l : Option PlainRow) → IfSome l (IsFitRow key) → IfSome l (λ row. IfSome (finite.get row field.0) (λ v. IsSomeAnd (field_at models key.model field) (λ info. IsGivable info v)))
  its_value key field None h = tt
  its_value key field (Some row) h = h.values field

  its_id : (key : RowKey) (l : Option PlainRow) → IfSome l (IsFitRow key) → IsSome l → key.id.0 < next_of t key.model
  its_id key None h there = cc
  its_id key (Some row) h there = h.below

  -- other rows that may stand there
  pub fits-rows : Fits models t → (rows : finite.FinMap row_key_cmp PlainRow) → ((key : RowKey) → IfSome (finite.get rows key) (IsFitRow key)) → Fits models (with_rows t rows)
  fits-rows fits rows h = record {
    next = fits.next;
    rows = λ model id. its_shape (key_of model id) (finite.get rows (key_of model id)) (h (key_of model id));
    values = λ model id field. its_value (key_of model id) field (finite.get rows (key_of model id)) (h (key_of model id));
    low = fits.low;
    above = λ model id there. its_id (key_of model id) (finite.get rows (key_of model id)) (h (key_of model id)) there;
  }

  -- one more row
  pub fits-insert : Fits models t → (key : RowKey) (row : PlainRow) → IsFitRow key row → Fits models (with_rows t (finite.insert t.rows key row))
  fits-insert fits key row fit = fits-rows fits (finite.insert t.rows key row) (all-insert rows_total exact_rows IsFitRow t.rows key row fit (rows-fit fits))

  -- one less
  pub fits-remove : Fits models t → (key : RowKey) → Fits models (with_rows t (finite.remove t.rows key))
  fits-remove fits key = fits-rows fits (finite.remove t.rows key) (all-remove rows_total exact_rows IsFitRow t.rows key (rows-fit fits))

  -- another next id of a model
  pub fits-next : Fits models t → (model : ModelNo) (n : ℕ) → HasModel models model → 1 ≤ n → ((id : RecId) → IsSome (row_at t model id) → id.0 < n)
      → Fits models (record { rows = t.rows; next_ids = finite.insert t.next_ids model.0 n })
  fits-next fits model n has low above = record {
    next = λ m. subst (λ w. IsSome w ↔ HasModel models m) (sym (told m)) (next_at m (eq_by_cmp nat_cmp m.0 model.0) (same m));
    rows = fits.rows;
    values = fits.values;
    low = λ m. subst (λ w. 1 ≤ unwrap_or w 1) (sym (told m)) (low_at m (eq_by_cmp nat_cmp m.0 model.0));
    above = λ m id there. subst (λ w. id.0 < unwrap_or w 1) (sym (told m)) (above_at m id there (eq_by_cmp nat_cmp m.0 model.0) (same m));
  }
    where
      told : (m : ModelNo) → finite.get (finite.insert t.next_ids model.0 n) m.0 ≡ cond (eq_by_cmp nat_cmp m.0 model.0) (Some n) (finite.get t.next_ids m.0)
      told m = finite.get-insert nat_cmp_total t.next_ids model.0 n m.0

      same : (m : ModelNo) → eq_by_cmp nat_cmp m.0 model.0 ≡ true → model ≡ m
      same m e = ap (λ (k : ℕ). record { 0 = k }) (sym (tells_apart exact_unsigned m.0 model.0 e))

      next_at : (m : ModelNo) (b : Bool) → (b ≡ true → model ≡ m) → IsSome (cond b (Some n) (finite.get t.next_ids m.0)) ↔ HasModel models m
      next_at m true is = (λ _. subst (HasModel models) (is refl) has, λ _. refl)
      next_at m false is = fits.next m

      low_at : (m : ModelNo) (b : Bool) → 1 ≤ unwrap_or (cond b (Some n) (finite.get t.next_ids m.0)) 1
      low_at m true = low
      low_at m false = fits.low m

      above_at : (m : ModelNo) (id : RecId) → IsSome (row_at t m id) → (b : Bool) → (b ≡ true → model ≡ m) → id.0 < unwrap_or (cond b (Some n) (finite.get t.next_ids m.0)) 1
      above_at m id there true is = above id (subst (λ m. IsSome (row_at t m id)) (sym (is refl)) there)
      above_at m id there false is = fits.above m id there

-- no rows, and the next id 1 of each model
pub fits-empty : (models : List ModelInfo) (rows : BTreeMap RowKey (BTreeMap ℕ Value)) (next_ids : BTreeMap ℕ ℕ) → rows.entries ≡ [] → next_ids.entries ≡ [] → Fits models (shown_tables models rows next_ids)
fits-empty models rows next_ids no_rows no_ids = record {
  next = λ model. subst (λ w. IsSome w ↔ HasModel models model) (sym (get-shown_next_ids models next_ids model.0)) (for_each (next_or_one next_ids model.0) (numbered models model.0));
  rows = λ model id. subst (λ w. IfSome w (λ row. IsSomeAnd (model_at models model) (λ info. IsRowOf info row))) (sym (none model id)) tt;
  values = λ model id field. subst (λ w. IfSome w (λ row. IfSome (finite.get row field.0) (λ v. IsSomeAnd (field_at models model field) (λ info. IsGivable info v)))) (sym (none model id)) tt;
  low = λ model. subst (λ w. 1 ≤ unwrap_or w 1) (sym (get-shown_next_ids models next_ids model.0 ∙ ap (λ n. option_map (λ _. n) (numbered models model.0)) (first model.0))) (one (numbered models model.0));
  above = λ model id there. contrary id.0 (next_of (shown_tables models rows next_ids) model) (sym (ap is_some (none model id)) ∙ there);
}
  where
    none : (model : ModelNo) (id : RecId) → finite.get (shown_rows rows) (key_of model id) ≡ None
    none model id = get-shown_rows rows (key_of model id) ∙ ap (λ es. option_map shown_row (lookup (is_at (row_key_cmp (key_of model id))) es)) no_rows

    for_each : (n : ℕ) (l : Option ModelInfo) → IsSome (option_map (λ _. n) l) ↔ IsSome l
    for_each n None = (λ h. h, λ h. h)
    for_each n (Some info) = (λ h. h, λ h. h)

    first : (k : ℕ) → next_or_one next_ids k ≡ 1
    first k = ap (λ es. unwrap_or (lookup (is_at (nat_cmp k)) es) 1) no_ids

    one : (l : Option ModelInfo) → 1 ≤ unwrap_or (option_map (λ _. 1) l) 1
    one None = omega arith
    one (Some info) = omega arith

    contrary : (a b : ℕ) → false ≡ true → a < b
    contrary a b e = cc

-- what is there, and what holds of it
pub there_and : {X : Type 0} (l : Option X) (P : X → Type 0) → IsSomeAnd l P → (x : X) × (l ≡ Some x) × P x
there_and None P h = absurd h
there_and (Some x) P h = (x, refl, h)

pub known_at : {X : Type 0} (l : Option X) (P : X → Type 0) (x : X) → l ≡ Some x → IsSomeAnd l P → P x
known_at l P x is h = subst (λ l. IsSomeAnd l P) is h

pub known_by : {X : Type 0} (l : Option X) (P : X → Type 0) (x : X) → l ≡ Some x → P x → IsSomeAnd l P
known_by l P x is h = subst (λ l. IsSomeAnd l P) (sym is) h

slice_front : (fields hidden : List FieldInfo) (n : ℕ) (field : FieldInfo) → slice_get fields n ≡ Some field → slice_get (fields ++ hidden) n ≡ Some field
slice_front [] hidden n field h = cc
slice_front (f ∷ fields) hidden zero field h = h
slice_front (f ∷ fields) hidden (suc n) field h = slice_front fields hidden n field h

-- a named field is one of all
pub numbered-named : (info : ModelInfo) (q : ℕ) (field : FieldInfo) → numbered info.fields q ≡ Some field → numbered (fields_of info) q ≡ Some field
numbered-named info zero field h = h
numbered-named info (suc n) field h = slice_front info.fields info.hidden n field h

not_one2many : (a b : Bool) (t : FieldType) → t ≡ type.One2many → (a && (not (is_one2many t) && b)) ≡ true → ⊥
not_one2many a b t is h = by_case a b (subst (λ t. (a && (not (is_one2many t) && b)) ≡ true) is h)
  where
    by_case : (a b : Bool) → (a && false) ≡ true → ⊥
    by_case true b e = cc
    by_case false b e = cc

-- what a kept field has without a value of its own is one of its values
unset-givable : (field : FieldInfo) → is_plain_kept field ≡ true → IsGivable field (initial_value field.field_type)
unset-givable field kept = by_type field.field_type refl
  where
    holds : (t : FieldType) (v : Value) → field.field_type ≡ t → HasType t field.selection v → IsGivable field v
    holds t v is h = subst (λ t. HasType t field.selection v) (sym is) h

    by_type : (t : FieldType) → field.field_type ≡ t → IsGivable field (initial_value t)
    by_type type.Boolean is = holds type.Boolean (value.Bool false) is tt
    by_type type.Integer is = holds type.Integer (value.Int (pos 0)) is (search rules)
    by_type type.Char is = holds type.Char value.Nil is tt
    by_type type.Text is = holds type.Text value.Nil is tt
    by_type type.Date is = holds type.Date value.Nil is tt
    by_type type.Datetime is = holds type.Datetime value.Nil is tt
    by_type type.Selection is = holds type.Selection value.Nil is tt
    by_type type.Many2one is = holds type.Many2one value.Nil is tt
    by_type type.One2many is = absurd (not_one2many (is_plain_from field.origin) (is_none field.mirror) field.field_type is kept)
    by_type type.Many2many is = holds type.Many2many (value.Refs []) is (λ k lt. absurd (omega arith))

module _ (info : ModelInfo) (q : ℕ) (field : FieldInfo) (at : numbered (fields_of info) q ≡ Some field) where
  one_givable : (x : FieldNo × Value) (b : Bool) (l : Option Value) → (x.0.0 == q) ≡ b → IsSomeAnd (numbered (fields_of info) x.0.0) (λ field. IsFitIn field x.1) → IfSome l (IsGivable field)
      → IfSome (cond b (Some x.1) l) (IsGivable field)
  one_givable x true l same fit rest = (known_at (numbered (fields_of info) x.0.0) (λ field. IsFitIn field x.1) field (ap (numbered (fields_of info)) (eqb-true x.0.0 q same) ∙ at) fit).1
  one_givable x false l same fit rest = rest

  -- what is given for a field is one of its values
  given-givable : (values : List (FieldNo × Value)) → All (λ given. IsSomeAnd (numbered (fields_of info) given.0.0) (λ field. IsFitIn field given.1)) values
      → IfSome (lookup (λ (number : FieldNo). number.0 == q) values) (IsGivable field)
  given-givable [] h = tt
  given-givable (x ∷ values) h =
      let Fit = λ (given : FieldNo × Value). IsSomeAnd (numbered (fields_of info) given.0.0) (λ field. IsFitIn field given.1) in
      one_givable x (x.0.0 == q) (lookup (λ (number : FieldNo). number.0 == q) values) refl (All-head Fit x values h) (given-givable values (All-tail Fit x values h))

or_unset : (P : Value → Type 0) (l : Option Value) (u : Value) → IfSome l P → P u → P (unwrap_or l u)
or_unset P None u h unset = unset
or_unset P (Some v) u h unset = h

module _ (models : List ModelInfo) (t : Tables) (key : RowKey) where
  -- a field of the row's model
  at_field : (info : ModelInfo) (q : ℕ) (found : Option FieldInfo) → model_at models key.model ≡ Some info → numbered (fields_of info) q ≡ found → field_at models key.model (record { 0 = q }) ≡ found
  at_field info q found at is = ap (option_and_then (λ i. numbered (fields_of i) q)) at ∙ is

  -- a made row may stand there
  pub made-fit : (info : ModelInfo) (values : List (FieldNo × Value)) → model_at models key.model ≡ Some info → AreFitValues info values → key.id.0 < next_of t key.model → IsFitRow models t key (row_of info values)
  made-fit info values at fit below = record {
    shape = known_by (model_at models key.model) (λ i. IsRowOf i (row_of info values)) info at (row_of-IsRowOf info values);
    values = λ number. subst (λ w. IfSome w (λ v. IsSomeAnd (field_at models key.model number) (λ f. IsGivable f v))) (sym (get-row_of info values number.0)) (by_case number (numbered info.fields number.0) refl);
    below = below;
  }
    where
      by_test : (number : FieldNo) (field : FieldInfo) (b : Bool) → is_plain_kept field ≡ b → numbered (fields_of info) number.0 ≡ Some field
          → IfSome (cond b (Some (given_for values (number.0, field))) None) (λ v. IsSomeAnd (field_at models key.model number) (λ f. IsGivable f v))
      by_test number field true kept is =
          known_by (field_at models key.model number) (λ f. IsGivable f (given_for values (number.0, field))) field (at_field info number.0 (Some field) at is)
          (or_unset (IsGivable field) (lookup (λ (n : FieldNo). n.0 == number.0) values) (initial_value field.field_type) (given-givable info number.0 field is values fit.0) (unset-givable field kept))
      by_test number field false kept is = tt

      by_case : (number : FieldNo) (found : Option FieldInfo) → numbered info.fields number.0 ≡ found → IfSome (kept_as (given_for values) number.0 found) (λ v. IsSomeAnd (field_at models key.model number) (λ f. IsGivable f v))
      by_case number None is = tt
      by_case number (Some field) is = by_test number field (is_plain_kept field) refl (numbered-named info number.0 field is)

  -- a row in which a value that fits is set may stand there
  pub set-fit : (info : ModelInfo) (number : FieldNo) (row : PlainRow) (v : Value) → model_at models key.model ≡ Some info → All IsCondition info.hidden → IsFitRow models t key row
      → IsSomeAnd (field_at models key.model number) (λ field. IsFitIn field v) → IsFitRow models t key (finite.insert row number.0 v)
  set-fit info number row v at conditions fits fit = record {
    shape = known_by (model_at models key.model) (λ i. IsRowOf i (finite.insert row number.0 v)) info at (row-from info (finite.insert row number.0 v) (λ q.
        ap is_some (finite.get-insert nat_cmp_total row number.0 v q) ∙ has_one q (eq_by_cmp nat_cmp q number.0) refl));
    values = λ n. all-insert nat_cmp_total exact_unsigned (λ q w. IsSomeAnd (field_at models key.model (record { 0 = q })) (λ f. IsGivable f w)) row number.0 v
        (known_by (field_at models key.model number) (λ f. IsGivable f v) found.0 found.1 found.2.1) (λ q. fits.values (record { 0 = q })) n.0;
    below = fits.below;
  }
    where
      found : (field : FieldInfo) × (field_at models key.model number ≡ Some field) × IsFitIn field v
      found = there_and (field_at models key.model number) (λ field. IsFitIn field v) fit

      is_kept : keeps (numbered info.fields number.0) ≡ true
      is_kept = sym (keeps-fields info conditions number.0) ∙ ap keeps (sym (at_field info number.0 (numbered (fields_of info) number.0) at refl) ∙ found.1) ∙ found.2.0

      has_one : (q : ℕ) (b : Bool) → eq_by_cmp nat_cmp q number.0 ≡ b → is_some (cond b (Some v) (finite.get row q)) ≡ keeps (numbered info.fields q)
      has_one q true e = sym (ap (λ n. keeps (numbered info.fields n)) (tells_apart exact_unsigned q number.0 e) ∙ is_kept)
      has_one q false e = row-has info row (known_at (model_at models key.model) (λ i. IsRowOf i row) info at fits.shape) q
