-- The computed cells of rows whose id is edited, one more at a time, and which rows are there.
use Rattle.std.proofs.Common.{◌≡◌, ◌⊎◌, ◌↔◌, ◌<◌, ◌≤◌, ◌+◌, inl, inr, ℕ, Bool, true, false, cond, not, List, [], ◌∷◌, length, get_or, take, Option, Some, None, refl, sym, ap, subst, ◌∙◌, arith}
use Rattle.std.specs.Prelude.{All, Any, Contains, IsSome, IsSomeAnd, is_some}
use Rattle.std.specs.BTreeSet as sorted
use Rattle.std.specs.Option.{option_map_or}
use Rattle.std.proofs.lemmas.Bool.{cases_lt}
use Rattle.std.proofs.lemmas.List.Elements.{Contains-get_or}
use Rattle.ob_base.specs.declared.id.Cell.{Cell}
use Rattle.ob_base.specs.declared.id.FieldNo.{FieldNo}
use Rattle.ob_base.specs.declared.id.ModelNo.{ModelNo}
use Rattle.ob_base.specs.declared.id.RecId.{RecId}
use Rattle.ob_schema.specs.Links.{Leads, leads_from, led_from, led_to}
use Rattle.ob_schema.specs.Models.{FieldHas, HasModel, field_at, is_computed_from, is_id_from, model_at}
use Rattle.ob_schema.specs.Tables.{Tables, row_at}
use Rattle.ob_schema.specs.declared.info.FieldInfo.{FieldInfo}
use Rattle.ob_schema.specs.declared.info.ModelInfo.{ModelInfo}
use Rattle.ob_schema.specs.declared.info.Origin.{Origin}
use Rattle.ob_schema.specs.declared.info.Origin.TheVariants as origin
use Rattle.ob_schema.proofs.CallerLemmas.{Any-none, contains-none}
use Rattle.ob_trigger.specs.Affected.{HasComputedField, IsComputedField}
use Rattle.ob_trigger.specs.Marks.{IsIdBeside, IsInEditedRow, HasMark}
use Rattle.ob_trigger.proofs.Indexing.{fields-gone, fields-low_number}
use Rattle.ob_trigger.proofs.Known.{some_or_none, tell_and, there_is, told_and}
use Rattle.ob_trigger.proofs.Lists.{any_more, contains-more, contrary}
use Rattle.ob_trigger.proofs.Marking.{none_marked}

-- what a test of a field's origin says
tested : (test : Origin → Bool) (o : Option FieldInfo) → option_map_or (λ field. test field.origin) o false ≡ true → IsSomeAnd o (λ field. test field.origin ≡ true)
tested test None is = absurd (contrary is)
tested test (Some f) is = is

untested : (test : Origin → Bool) (o : Option FieldInfo) → option_map_or (λ field. test field.origin) o false ≡ false → IsSomeAnd o (λ field. test field.origin ≡ true) → ⊥
untested test None is has = has
untested test (Some f) is has = contrary (sym is ∙ has)

module _ (models : List ModelInfo) where
  -- ---- one cell

  pub computed-not : (old : sorted.BTreeSet Cell) (cell : Cell) → option_map_or (λ field. is_computed_from field.origin) (field_at models cell.model cell.field) false ≡ false → (other : Cell)
      → HasMark old other ↔ (HasMark old other ⊎ ((other ≡ cell) × HasComputedField models cell))
  computed-not old cell not other = (λ marks. inl marks, from)
    where
      from : HasMark old other ⊎ ((other ≡ cell) × HasComputedField models cell) → HasMark old other
      from (inl marks) = marks
      from (inr (is, has)) = absurd (untested is_computed_from (field_at models cell.model cell.field) not has)

  pub computed-one : (old new : sorted.BTreeSet Cell) (cell : Cell) → option_map_or (λ field. is_computed_from field.origin) (field_at models cell.model cell.field) false ≡ true
      → ((other : Cell) → HasMark new other ↔ (HasMark old other ⊎ (other ≡ cell))) → (other : Cell) → HasMark new other ↔ (HasMark old other ⊎ ((other ≡ cell) × HasComputedField models cell))
  computed-one old new cell so more other = (to, from)
    where
      has : HasComputedField models cell
      has = tested is_computed_from (field_at models cell.model cell.field) so

      to : HasMark new other → HasMark old other ⊎ ((other ≡ cell) × HasComputedField models cell)
      to marks = elim ((more other).0 marks) [ inl had ↦ inl had | inr is ↦ inr (is, has) ]

      from : HasMark old other ⊎ ((other ≡ cell) × HasComputedField models cell) → HasMark new other
      from (inl had) = (more other).1 (inl had)
      from (inr (is, _)) = (more other).1 (inr is)

  -- ---- the cells of a row

  abbrev pub InFirst : ModelNo → RecId → ℕ → Cell → Type 0
  InFirst model id n cell = (cell.model ≡ model) × (cell.id ≡ id) × (cell.field.0 ≤ n) × HasComputedField models cell

  pub row-none : (model : ModelNo) (id : RecId) (cell : Cell) → InFirst model id 0 cell → ⊥
  row-none model id cell (own, same, low, has) =
      let t = told_and (field_at models cell.model cell.field) IsComputedField has in
      let first = fields-low_number models cell.model cell.field (there_is (field_at models cell.model cell.field) t.0 t.1) in omega (arith, first)

  pub row-start : (old : sorted.BTreeSet Cell) (model : ModelNo) (id : RecId) (cell : Cell) → HasMark old cell ↔ (HasMark old cell ⊎ InFirst model id 0 cell)
  row-start old model id cell = (λ marks. inl marks, from)
    where
      from : HasMark old cell ⊎ InFirst model id 0 cell → HasMark old cell
      from (inl marks) = marks
      from (inr such) = absurd (row-none model id cell such)

  pub row-more : (old now new : sorted.BTreeSet Cell) (model : ModelNo) (id : RecId) (n : ℕ)
      → ((cell : Cell) → HasMark new cell ↔ (HasMark now cell ⊎ ((cell ≡ record { model = model; id = id; field = record { 0 = n + 1 } }) × HasComputedField models (record { model = model; id = id; field = record { 0 = n + 1 } }))))
      → ((cell : Cell) → HasMark now cell ↔ (HasMark old cell ⊎ InFirst model id n cell)) → (cell : Cell) → HasMark new cell ↔ (HasMark old cell ⊎ InFirst model id (n + 1) cell)
  row-more old now new model id n step before cell = (to, from)
    where
      next : Cell
      next = record { model = model; id = id; field = record { 0 = n + 1 } }

      to : HasMark new cell → HasMark old cell ⊎ InFirst model id (n + 1) cell
      to marks = elim ((step cell).0 marks) [
        | inr (is, has) ↦ inr (
          ap (λ (c : Cell). c.model) is,
          ap (λ (c : Cell). c.id) is,
          (let number = ap (λ (c : Cell). c.field.0) is in omega (arith, number)),
          subst (HasComputedField models) (sym is) has,
        )
        | inl was ↦ elim ((before cell).0 was) [ inl had ↦ inl had | inr (own, same, low, has) ↦ inr (own, same, omega arith, has) ]
      ]

      last : (k : ℕ) → k ≤ n + 1 → (k ≤ n) ⊎ (k ≡ n + 1)
      last k low = elim (cases_lt k (n + 1)) [ inl less ↦ inl (omega arith) | inr above ↦ inr (omega arith) ]

      from : HasMark old cell ⊎ InFirst model id (n + 1) cell → HasMark new cell
      from (inl had) = (step cell).1 (inl ((before cell).1 (inl had)))
      from (inr (own, same, low, has)) = elim (last cell.field.0 low) [
        | inl less ↦ (step cell).1 (inl ((before cell).1 (inr (own, same, less, has))))
        | inr equal ↦ (let is : cell ≡ record { model = model; id = id; field = record { 0 = n + 1 } } = λ i. record { model = own i; id = same i; field = record { 0 = equal i } } in
            (step cell).1 (inr (is, subst (HasComputedField models) is has)))
      ]

  pub row-all : (old new : sorted.BTreeSet Cell) (model : ModelNo) (id : RecId) (n : ℕ) → ((field : FieldNo) → IsSome (field_at models model field) → field.0 ≤ n)
      → ((cell : Cell) → HasMark new cell ↔ (HasMark old cell ⊎ InFirst model id n cell)) → (cell : Cell)
      → HasMark new cell ↔ (HasMark old cell ⊎ ((cell.model ≡ model) × (cell.id ≡ id) × HasComputedField models cell))
  row-all old new model id n all is cell = (to, from)
    where
      to : HasMark new cell → HasMark old cell ⊎ ((cell.model ≡ model) × (cell.id ≡ id) × HasComputedField models cell)
      to marks = elim ((is cell).0 marks) [ inl had ↦ inl had | inr (own, same, low, has) ↦ inr (own, same, has) ]

      from : HasMark old cell ⊎ ((cell.model ≡ model) × (cell.id ≡ id) × HasComputedField models cell) → HasMark new cell
      from (inl had) = (is cell).1 (inl had)
      from (inr (own, same, has)) =
          let t = told_and (field_at models cell.model cell.field) IsComputedField has in
          (is cell).1 (inr (own, same, all cell.field (subst (λ (m : ModelNo). IsSome (field_at models m cell.field)) own (there_is (field_at models cell.model cell.field) t.0 t.1)), has))

  -- ---- the rows of edited cells

  pub beside-not : (old : sorted.BTreeSet Cell) (own : Cell) → option_map_or (λ field. is_id_from field.origin) (field_at models own.model own.field) false ≡ false → (cell : Cell)
      → HasMark old cell ↔ (HasMark old cell ⊎ (HasComputedField models cell × IsIdBeside models cell own))
  beside-not old own not cell = (λ marks. inl marks, from)
    where
      from : HasMark old cell ⊎ (HasComputedField models cell × IsIdBeside models cell own) → HasMark old cell
      from (inl marks) = marks
      from (inr (has, beside)) = absurd (untested is_id_from (field_at models own.model own.field) not beside.2)

  pub beside-row : (old new : sorted.BTreeSet Cell) (own : Cell) → option_map_or (λ field. is_id_from field.origin) (field_at models own.model own.field) false ≡ true
      → ((cell : Cell) → HasMark new cell ↔ (HasMark old cell ⊎ ((cell.model ≡ own.model) × (cell.id ≡ own.id) × HasComputedField models cell))) → (cell : Cell)
      → HasMark new cell ↔ (HasMark old cell ⊎ (HasComputedField models cell × IsIdBeside models cell own))
  beside-row old new own so is cell = (to, from)
    where
      to : HasMark new cell → HasMark old cell ⊎ (HasComputedField models cell × IsIdBeside models cell own)
      to marks = elim ((is cell).0 marks) [
        | inl had ↦ inl had
        | inr (model, id, has) ↦ inr (has, (sym model, sym id, tested is_id_from (field_at models own.model own.field) so))
      ]

      from : HasMark old cell ⊎ (HasComputedField models cell × IsIdBeside models cell own) → HasMark new cell
      from (inl had) = (is cell).1 (inl had)
      from (inr (has, beside)) = (is cell).1 (inr (sym beside.0, sym beside.1, has))

  pub edited-start : (old : sorted.BTreeSet Cell) (cell : Cell) → HasMark old cell ↔ (HasMark old cell ⊎ IsInEditedRow models [] cell)
  edited-start old cell = (λ marks. inl marks, from)
    where
      from : HasMark old cell ⊎ IsInEditedRow models [] cell → HasMark old cell
      from (inl marks) = marks
      from (inr (has, any)) = absurd (Any-none (IsIdBeside models cell) any)

  pub edited-more : (edited : List Cell) (i : ℕ) (d : Cell) (old now new : sorted.BTreeSet Cell) → i < length edited
      → ((cell : Cell) → HasMark new cell ↔ (HasMark now cell ⊎ (HasComputedField models cell × IsIdBeside models cell (get_or edited i d))))
      → ((cell : Cell) → HasMark now cell ↔ (HasMark old cell ⊎ IsInEditedRow models (take i edited) cell)) → (cell : Cell)
      → HasMark new cell ↔ (HasMark old cell ⊎ IsInEditedRow models (take (i + 1) edited) cell)
  edited-more edited i d old now new within step before cell = (to, from)
    where
      more : (Any (IsIdBeside models cell) (take i edited) ⊎ IsIdBeside models cell (get_or edited i d)) ↔ Any (IsIdBeside models cell) (take (i + 1) edited)
      more = any_more (IsIdBeside models cell) edited i d within

      to : HasMark new cell → HasMark old cell ⊎ IsInEditedRow models (take (i + 1) edited) cell
      to marks = elim ((step cell).0 marks) [
        | inr (has, beside) ↦ inr (has, more.0 (inr beside))
        | inl was ↦ elim ((before cell).0 was) [ inl had ↦ inl had | inr (has, any) ↦ inr (has, more.0 (inl any)) ]
      ]

      from : HasMark old cell ⊎ IsInEditedRow models (take (i + 1) edited) cell → HasMark new cell
      from (inl had) = (step cell).1 (inl ((before cell).1 (inl had)))
      from (inr (has, any)) = elim (more.1 any) [
        | inl front ↦ (step cell).1 (inl ((before cell).1 (inr (has, front))))
        | inr beside ↦ (step cell).1 (inr (has, beside))
      ]

  -- ---- which rows are there

  -- `id` leads to its own row, where that is there
  pub id-leads : (model : ModelNo) (field : FieldNo) → FieldHas models (λ f. f.origin ≡ origin.Id) model field → FieldHas models Leads model field
  id-leads model field has =
      let t = told_and (field_at models model field) (λ f. f.origin ≡ origin.Id) has in
      tell_and (field_at models model field) t.0 Leads t.1 (ap (λ (o : Origin). leads_from o t.0) t.2)

  pub id-led : (tables : Tables) (cell : Cell) → FieldHas models (λ f. f.origin ≡ origin.Id) cell.model cell.field
      → led_to models tables cell ≡ cond (is_some (row_at tables cell.model cell.id)) (cell.id ∷ []) []
  id-led tables cell has =
      let t = told_and (field_at models cell.model cell.field) (λ f. f.origin ≡ origin.Id) has in
      ap (λ (o : Option FieldInfo). option_map_or (λ f. led_from models tables f.origin cell) o []) t.1 ∙ ap (λ (o : Origin). led_from models tables o cell) t.2

-- a row is there exactly if its list isn't empty
pub there-by : (b : Bool) (id : RecId) (ids : List RecId) (empty : Bool) → ids ≡ cond b (id ∷ []) [] → (empty ≡ true → ids ≡ []) → (ids ≡ [] → empty ≡ true) → not empty ≡ b
there-by true id ids true is to from = let both : id ∷ [] ≡ [] = sym is ∙ to refl in absurd cc
there-by true id ids false is to from = refl
there-by false id ids true is to from = refl
there-by false id ids false is to from = contrary (from is)

-- ---- cells whose rows are there, one more at a time

abbrev pub AreThere : Tables → List Cell → sorted.BTreeSet Cell → Type 0
AreThere tables cells there = (cell : Cell) → HasMark there cell ↔ (Contains cells cell × IsSome (row_at tables cell.model cell.id))

pub there-none : (tables : Tables) (there : sorted.BTreeSet Cell) → there.keys ≡ [] → AreThere tables [] there
there-none tables there empty cell = (λ marks. absurd (none_marked there cell empty marks), λ such. absurd (contains-none cell such.0))

pub there-more : (tables : Tables) (cells : List Cell) (i : ℕ) (d : Cell) (old new : sorted.BTreeSet Cell) → i < length cells
    → ((other : Cell) → HasMark new other ↔ (HasMark old other ⊎ ((other ≡ get_or cells i d) × IsSome (row_at tables (get_or cells i d).model (get_or cells i d).id))))
    → AreThere tables (take i cells) old → AreThere tables (take (i + 1) cells) new
there-more tables cells i d old new within step before cell = (to, from)
  where
    to : HasMark new cell → Contains (take (i + 1) cells) cell × IsSome (row_at tables cell.model cell.id)
    to marks = elim ((step cell).0 marks) [
      | inl was ↦ (let b = (before cell).0 was in ((contains-more cells i d cell within).1 (inl b.0), b.1))
      | inr (is, here) ↦ ((contains-more cells i d cell within).1 (inr (sym is)), subst (λ (c : Cell). IsSome (row_at tables c.model c.id)) (sym is) here)
    ]

    from : Contains (take (i + 1) cells) cell × IsSome (row_at tables cell.model cell.id) → HasMark new cell
    from (among, here) = elim ((contains-more cells i d cell within).0 among) [
      | inl front ↦ (step cell).1 (inl ((before cell).1 (front, here)))
      | inr is ↦ (step cell).1 (inr (sym is, subst (λ (c : Cell). IsSome (row_at tables c.model c.id)) (sym is) here))
    ]

pub among-more : (cells : List Cell) (i : ℕ) (d : Cell) (old new : sorted.BTreeSet Cell) → i < length cells → ((other : Cell) → HasMark new other → HasMark old other ⊎ (other ≡ get_or cells i d))
    → ((cell : Cell) → HasMark old cell → Contains (take i cells) cell) → (cell : Cell) → HasMark new cell → Contains (take (i + 1) cells) cell
among-more cells i d old new within step before cell marks = elim (step cell marks) [
  | inl was ↦ (contains-more cells i d cell within).1 (inl (before cell was))
  | inr is ↦ (contains-more cells i d cell within).1 (inr (sym is))
]

-- one cell whose row is there, or isn't
pub put-there : (tables : Tables) (old new : sorted.BTreeSet Cell) (cell : Cell) → is_some (row_at tables cell.model cell.id) ≡ true → ((other : Cell) → HasMark new other ↔ (HasMark old other ⊎ (other ≡ cell))) → (other : Cell)
    → HasMark new other ↔ (HasMark old other ⊎ ((other ≡ cell) × IsSome (row_at tables cell.model cell.id)))
put-there tables old new cell here more other = (to, from)
  where
    to : HasMark new other → HasMark old other ⊎ ((other ≡ cell) × IsSome (row_at tables cell.model cell.id))
    to marks = elim ((more other).0 marks) [ inl had ↦ inl had | inr is ↦ inr (is, here) ]

    from : HasMark old other ⊎ ((other ≡ cell) × IsSome (row_at tables cell.model cell.id)) → HasMark new other
    from (inl had) = (more other).1 (inl had)
    from (inr (is, _)) = (more other).1 (inr is)

pub left-out : (tables : Tables) (old : sorted.BTreeSet Cell) (cell : Cell) → is_some (row_at tables cell.model cell.id) ≡ false → (other : Cell)
    → HasMark old other ↔ (HasMark old other ⊎ ((other ≡ cell) × IsSome (row_at tables cell.model cell.id)))
left-out tables old cell gone other = (λ marks. inl marks, from)
  where
    from : HasMark old other ⊎ ((other ≡ cell) × IsSome (row_at tables cell.model cell.id)) → HasMark old other
    from (inl marks) = marks
    from (inr (is, here)) = contrary (sym gone ∙ here)

-- the model of each of some cells is there
pub models_there : (models : List ModelInfo) (cells : List Cell) → ((cell : Cell) → Contains cells cell → HasComputedField models cell) → All (λ cell. HasModel models cell.model) cells
models_there models cells all k d within = by (get_or cells k d) (all (get_or cells k d) (Contains-get_or cells k d within))
  where
    by : (cell : Cell) → HasComputedField models cell → HasModel models cell.model
    by cell has = elim (some_or_none (model_at models cell.model)) [
      | inr some ↦ there_is (model_at models cell.model) some.0 some.1
      | inl none ↦ (let t = told_and (field_at models cell.model cell.field) IsComputedField has in
          absurd (fields-gone models cell.model none cell.field (there_is (field_at models cell.model cell.field) t.0 t.1)))
    ]
