-- The kept forms of the rows of sound tables: what their fields hold, and that they can be read.
use Rattle.std.proofs.Common.{◌≡◌, ◌+◌, ◌<◌, ◌≤◌, ◌⊎◌, ◌++◌, inl, inr, ℕ, zero, suc, Bool, true, false, ◌&&◌, not, cond, List, [], ◌∷◌, map, filter, length, get_or, Option, Some, None, unwrap_or, is_some, is_none, IsSome, Result, Ok, Err, refl, sym, ap, subst, ◌∙◌, arith, eq-eqb}
use Rattle.std.specs.Prelude.{All, IfSome, IsOk, IsSomeAnd, codes, option_and_then}
use Rattle.std.specs.List.{AllByRecursion, slice_get}
use Rattle.std.specs.Str.{bytes_eq}
use Rattle.std.specs.FinMap as finite
use Rattle.std.specs.Result.{result_unwrap_or}
use Rattle.std.proofs.lemmas.Bool.{and_parts}
use Rattle.std.proofs.lemmas.Option.{slice_get-get_or}
use Rattle.ob_base.specs.Ids.{IsId}
use Rattle.ob_base.specs.Limits.{max_id, max_targets}
use Rattle.ob_base.specs.declared.id.Cell.{Cell}
use Rattle.ob_base.specs.declared.id.FieldNo.{FieldNo}
use Rattle.ob_base.specs.declared.id.ModelNo.{ModelNo}
use Rattle.ob_base.specs.declared.id.RecId.{RecId}
use Rattle.ob_base.specs.declared.refusal.BrokenKind.TheVariants as kind
use Rattle.ob_base.specs.declared.value.Value.{Value}
use Rattle.ob_base.specs.declared.value.Value.TheVariants as value
use Rattle.ob_cache.specs.Kept.{kept_columns, kept_row, kept_value, links_of}
use Rattle.ob_cache.specs.Opening.{IsReadAs, plain_row}
use Rattle.ob_cache.proofs.KeptForms.{IsColumn, columns-at, is-plain_row, kept_ones}
use Rattle.ob_cache.proofs.PlainValues.{plain-told}
use Rattle.ob_codec.specs.RowForm.{HoldAll}
use Rattle.ob_definition.specs.Definitions.{plain_field}
use Rattle.ob_definition.specs.Types.{is_one2many, is_relation}
use Rattle.ob_definition.specs.Values.{HasType, IsNative, IsValueOf}
use Rattle.ob_definition.specs.declared.field_type.Choice.{Choice}
use Rattle.ob_definition.specs.declared.field_type.FieldType.{FieldType}
use Rattle.ob_definition.specs.declared.field_type.FieldType.TheVariants as type
use Rattle.ob_expr.specs.Computing.{Lack}
use Rattle.ob_schema.specs.Broken.{AreSound}
use Rattle.ob_schema.specs.Built.{numbered}
use Rattle.ob_schema.specs.Fields.{Column, Holds, IsGivable, is_kept, is_kept_from, is_own, is_plain_from, is_plain_kept, kept_fields}
use Rattle.ob_schema.specs.Models.{IsRegistry, field_at, fields_of, is_computed_from, is_given_from, is_id_from, model_at}
use Rattle.ob_schema.specs.Plain.{names, plain_at, plain_by}
use Rattle.ob_schema.specs.Tables.{IsRowOf, PlainRow, Tables, kept_in, row_at}
use Rattle.ob_schema.specs.Val.{val}
use Rattle.ob_schema.specs.declared.info.FieldInfo.{FieldInfo}
use Rattle.ob_schema.specs.declared.info.ModelInfo.{ModelInfo}
use Rattle.ob_schema.specs.declared.info.Origin.{Origin}
use Rattle.ob_schema.specs.declared.info.Origin.TheVariants as origin
use Rattle.ob_tables.proofs.CallerLemmas.{Field-at, at-names, is_there, keeps, known_at, known_if, plain-there, plain_is, row-has, tell_and, there_is, told_and}

-- ---- fields of a model

slice_get-front : {X : Type 0} (xs ys : List X) (k : ℕ) (x : X) → slice_get xs k ≡ Some x → slice_get (xs ++ ys) k ≡ Some x
slice_get-front [] ys k x is = absurd cc
slice_get-front (y ∷ xs) ys zero x is = is
slice_get-front (y ∷ xs) ys (suc k) x is = slice_get-front xs ys k x is

-- the first of two lists at a number
pub numbered-front : {X : Type 0} (xs ys : List X) (q : ℕ) (x : X) → numbered xs q ≡ Some x → numbered (xs ++ ys) q ≡ Some x
numbered-front xs ys zero x is = absurd cc
numbered-front xs ys (suc k) x is = slice_get-front xs ys k x is

-- a named field of a model that is there
pub field-of : (models : List ModelInfo) (model : ModelNo) (info : ModelInfo) (q : ℕ) (field : FieldInfo) → model_at models model ≡ Some info → numbered info.fields q ≡ Some field → field_at models model (record { 0 = q }) ≡ Some field
field-of models model info q field is at = ap (option_and_then (λ (i : ModelInfo). numbered (fields_of i) q)) is ∙ numbered-front info.fields info.hidden q field at

-- the field `id` of a model
pub record IdField (models : List ModelInfo) (model : ModelNo) (info : ModelInfo) : Type 0 where
  pub place : ℕ
  pub field : FieldInfo
  pub named : slice_get info.fields place ≡ Some field
  pub at : field_at models model (record { 0 = suc place }) ≡ Some field
  pub name : field.name ≡ codes "id"
  pub is_id : is_id_from field.origin ≡ true

pub id-field : (models : List ModelInfo) → IsRegistry models → (model : ModelNo) (info : ModelInfo) → model_at models model ≡ Some info → IdField models model info
id-field models registry model info is =
    let (k, field, within, found, own) = (registry.each model info is).automatic 2 (plain_field (codes "id") type.Integer) (omega arith) in
    let named : slice_get info.fields k ≡ Some field = slice_get-get_or info.fields k field within ∙ ap Some found in
    let at = field-of models model info (suc k) field is named in
    record {
      place = k;
      field = field;
      named = named;
      at = at;
      name = own.0;
      is_id = (Field-at models model (record { 0 = suc k }) field registry at).right.id ∙ ap (λ (n : List ℕ). bytes_eq n (codes "id")) own.0;
    }

-- ---- what a field may hold

-- a given value is one that its field may hold, where the ids in it are within their limits, and few enough
pub given-holds : (t : FieldType) (choices : List Choice) (v : Value) → HasType t choices v → is_one2many t ≡ false → (is_relation t ≡ true → (id : RecId) → names id v ≡ true → IsId id)
    → (t ≡ type.Many2many → (ids : List RecId) → v ≡ value.Refs ids → length ids ≤ max_targets) → IsValueOf t choices v
given-holds type.Many2one choices (value.Ref id) has own ids few = ids refl id (eq-eqb id.0 id.0 refl)
given-holds type.Many2one choices _ has own ids few = has
given-holds type.One2many choices v has own ids few = absurd cc
given-holds type.Many2many choices (value.Refs targets) has own ids few =
    let within : All IsId targets = λ k d low. ids refl (get_or targets k d) (at-names (value.Refs targets) k (get_or targets k d) (slice_get-get_or targets k d low)) in
    (record { rising = has; within = within }, few refl targets refl)
given-holds type.Many2many choices _ has own ids few = has
given-holds type.Boolean choices v has own ids few = has
given-holds type.Integer choices v has own ids few = has
given-holds type.Char choices v has own ids few = has
given-holds type.Text choices v has own ids few = has
given-holds type.Date choices v has own ids few = has
given-holds type.Datetime choices v has own ids few = has
given-holds type.Selection choices v has own ids few = has

not-true : (b : Bool) → not b ≡ true → b ≡ false
not-true true is = cc
not-true false is = refl

none-is : {X : Type 0} (o : Option X) → is_none o ≡ true → o ≡ None
none-is None is = refl
none-is (Some x) is = absurd cc

no-some : {X : Type 0} (o : Option X) (b : Bool) → is_some o ≡ b → b ≡ false → o ≡ None
no-some None b is none = refl
no-some (Some x) b is none = absurd (let not : true ≡ false = is ∙ none in cc)

-- a kept field that isn't plain is computed
pub computed-from : (o : Origin) (field : FieldInfo) → is_kept_from o field ≡ true → (is_plain_from o && is_own field) ≡ false → is_computed_from o ≡ true
computed-from origin.Id field kept plain = absurd cc
computed-from origin.Plain field kept plain = absurd (let not : true ≡ false = sym kept ∙ plain in cc)
computed-from (origin.Delegated at) field kept plain = absurd cc
computed-from (origin.Computed formula) field kept plain = refl

-- each of a list, by more that is known
AllByRecursion-weaker : {X : Type 0} {P Q : X → Type 0} → ((x : X) → P x → Q x) → (xs : List X) → AllByRecursion P xs → AllByRecursion Q xs
AllByRecursion-weaker more [] all = tt
AllByRecursion-weaker more (x ∷ xs) all = (more x all.0, AllByRecursion-weaker more xs all.1)

-- values that hold in each column
HoldAll-map : (g : Column → Value) (n : ℕ) (fields : List FieldInfo) → AllByRecursion (λ c. Holds c.1 (g c)) (kept_ones n fields) → HoldAll (filter is_kept fields) (map g (kept_ones n fields))
HoldAll-map g n [] all = tt
HoldAll-map g n (f ∷ fields) all = by (is_kept f) all (HoldAll-map g (n + 1) fields)
  where
    by : (b : Bool) → AllByRecursion (λ c. Holds c.1 (g c)) (cond b ((n, f) ∷ kept_ones (n + 1) fields) (kept_ones (n + 1) fields))
        → (AllByRecursion (λ c. Holds c.1 (g c)) (kept_ones (n + 1) fields) → HoldAll (filter is_kept fields) (map g (kept_ones (n + 1) fields)))
        → HoldAll (cond b (f ∷ filter is_kept fields) (filter is_kept fields)) (map g (cond b ((n, f) ∷ kept_ones (n + 1) fields) (kept_ones (n + 1) fields)))
    by true all later = (all.0, later all.1)
    by false all later = later all

-- what lacks a value has none
pub no_value : (m : Result Value Lack) (lack : Lack) → m ≡ Err lack → IsOk m → ⊥
no_value (Ok v) lack is ok = cc
no_value (Err other) lack is ok = cc

-- ---- rows of sound tables

module _ (models : List ModelInfo) (tables : Tables) (registry : IsRegistry models) (sound : AreSound models tables) where
  -- the id of a row that is there is within its limits
  pub id-within : (model : ModelNo) (id : RecId) → IsSome (row_at tables model id) → IsId id
  id-within model id there =
      let row = is_there (row_at tables model id) there in
      let info = told_and (model_at models model) (λ (i : ModelInfo). IsRowOf i row.0) (known_if (row_at tables model id) row.0 (λ r. IsSomeAnd (model_at models model) (λ i. IsRowOf i r)) row.1 (sound.fits.rows model id)) in
      let own = id-field models registry model info.0 info.1 in
      let cell : Cell = record { model = model; id = id; field = record { 0 = suc own.place } } in
      let past : (id.0 ≡ 0) ⊎ (max_id < id.0) → ⊥ = λ p.
      sound.sound (record { kind = kind.Limit; cell = cell })
      (inl (there, tell_and (field_at models model (record { 0 = suc own.place })) own.field (λ i. (is_id_from i.origin ≡ true) × ((id.0 ≡ 0) ⊎ (max_id < id.0))) own.at (own.is_id, p))) in
      by (λ e. past (inl e)) (λ lt. past (inr lt))
    where
      by : (id.0 ≡ 0 → ⊥) → (max_id < id.0 → ⊥) → IsId id
      by none far = (omega arith, omega arith)

  module _ (model : ModelNo) (id : RecId) (info : ModelInfo) (row : PlainRow) (info_is : model_at models model ≡ Some info) (row_is : row_at tables model id ≡ Some row) where
    -- it is one of its model
    pub row-shape : IsRowOf info row
    row-shape =
        known_at (model_at models model) info (λ i. IsRowOf i row) info_is (known_if (row_at tables model id) row (λ r. IsSomeAnd (model_at models model) (λ i. IsRowOf i r)) row_is (sound.fits.rows model id))

    abbrev cell_at : ℕ → Cell
    cell_at q = record { model = model; id = id; field = record { 0 = q } }

    module _ (q : ℕ) (field : FieldInfo) (at : numbered info.fields q ≡ Some field) where
      field_is : field_at models model (record { 0 = q }) ≡ Some field
      field_is = field-of models model info q field info_is at

      module _ (plain : is_plain_kept field ≡ true) where
        own : is_own field ≡ true
        own = (and_parts (is_plain_from field.origin) (is_own field) plain).1

        from_plain : field.origin ≡ origin.Plain
        from_plain = plain_is field.origin (and_parts (is_plain_from field.origin) (is_own field) plain).0

        single : is_one2many field.field_type ≡ false
        single = not-true (is_one2many field.field_type) (and_parts (not (is_one2many field.field_type)) (is_none field.mirror) own).0

        no_inverse : field.inverse ≡ None
        no_inverse = no-some field.inverse (is_one2many field.field_type) (Field-at models model (record { 0 = q }) field registry field_is).right.inverse single

        no_mirror : field.mirror ≡ None
        no_mirror = none-is field.mirror (and_parts (not (is_one2many field.field_type)) (is_none field.mirror) own).1

        kept : Value
        kept = kept_in row (record { 0 = q })

        -- its plain value is what it keeps
        plain-is_kept : plain_at tables models (cell_at q) ≡ Some (kept_in row (record { 0 = q }))
        plain-is_kept =
            plain-there models tables (cell_at q) info field info_is (registry.each model info info_is) field_is from_plain row row_is
            ∙ ap (λ (o : Option FieldNo). Some (plain_by tables o field.mirror field (record { 0 = q }) id row)) no_inverse
            ∙ ap (λ (o : Option FieldNo). Some (plain_by tables None o field (record { 0 = q }) id row)) no_mirror

        -- so is its value from scratch
        pub val-plain : val models tables (cell_at q) ≡ Ok (kept_in row (record { 0 = q }))
        val-plain = plain-told models tables (cell_at q) field (Some (kept_in row (record { 0 = q }))) field_is (ap is_given_from from_plain) (sym plain-is_kept)

        -- it is of the field's type
        kept-given : IsGivable field (kept_in row (record { 0 = q }))
        kept-given = by (finite.get row q) (row-has info row row-shape q ∙ ap keeps at ∙ plain)
            (known_if (row_at tables model id) row (λ r. IfSome (finite.get r q) (λ v. IsSomeAnd (field_at models model (record { 0 = q })) (λ i. IsGivable i v))) row_is (sound.fits.values model id (record { 0 = q })))
          where
            by : (o : Option Value) → is_some o ≡ true → IfSome o (λ v. IsSomeAnd (field_at models model (record { 0 = q })) (λ i. IsGivable i v)) → IsGivable field (unwrap_or o value.Nil)
            by None there known = absurd cc
            by (Some v) there known = known_at (field_at models model (record { 0 = q })) field (λ i. IsGivable i v) field_is known

        -- the rows that it names are there
        named-within : is_relation field.field_type ≡ true → (other : RecId) → names other (kept_in row (record { 0 = q })) ≡ true → IsId other
        named-within related other named = by field.relation refl ((Field-at models model (record { 0 = q }) field registry field_is).right.relation_alone ∙ related)
          where
            by : (o : Option ModelNo) → field.relation ≡ o → is_some o ≡ true → IsId other
            by None to there = absurd cc
            by (Some target) to there = at_row (row_at tables target other) refl
              where
                at_row : (r : Option PlainRow) → row_at tables target other ≡ r → IsId other
                at_row (Some found) is = id-within target other (there_is (row_at tables target other) found is)
                at_row None none = absurd (sound.sound (record { kind = kind.MissingRef; cell = cell_at q }) (
                  there_is (row_at tables model id) row row_is,
                  tell_and (field_at models model (record { 0 = q })) field
                      (λ i. (is_plain_kept i ≡ true) × IsSomeAnd (plain_at tables models (cell_at q)) (λ v. (n : RecId) × (names n v ≡ true) × IsSomeAnd i.relation (λ t. row_at tables t n ≡ None))) field_is (
                        plain,
                        tell_and (plain_at tables models (cell_at q)) (kept_in row (record { 0 = q })) (λ v. (n : RecId) × (names n v ≡ true) × IsSomeAnd field.relation (λ t. row_at tables t n ≡ None)) plain-is_kept
                            (other, named, tell_and field.relation target (λ t. row_at tables t other ≡ None) to none),
                      ),
                ))

        -- it has no more targets than it may have
        few-targets : field.field_type ≡ type.Many2many → (ids : List RecId) → kept_in row (record { 0 = q }) ≡ value.Refs ids → length ids ≤ max_targets
        few-targets many ids holds = by (λ over. sound.sound (record { kind = kind.Limit; cell = cell_at q }) (inr (
          there_is (row_at tables model id) row row_is,
          tell_and (field_at models model (record { 0 = q })) field (λ i. (i.field_type ≡ type.Many2many) × ((ids : List RecId) × (plain_at tables models (cell_at q) ≡ Some (value.Refs ids)) × (max_targets < length ids))) field_is
              (many, (ids, plain-is_kept ∙ ap Some holds, over)),
        )))
          where
            by : (max_targets < length ids → ⊥) → length ids ≤ max_targets
            by not = omega arith

        -- a plain value is one that its field may hold
        pub plain-holds : Holds field (kept_in row (record { 0 = q }))
        plain-holds = given-holds field.field_type field.selection (kept_in row (record { 0 = q })) kept-given single named-within few-targets

    -- what is kept for a column
    module _ (typed : (cell : Cell) (info : FieldInfo) → field_at models cell.model cell.field ≡ Some info → is_computed_from info.origin ≡ true → (v : Value) → val models tables cell ≡ Ok v → IsNative v → Holds info v)
        (valued : (cell : Cell) → IsSome (row_at tables cell.model cell.id) → IsSome (field_at models cell.model cell.field) → IsOk (val models tables cell))
        (native : (cell : Cell) (v : Value) → val models tables cell ≡ Ok v → IsNative v) where
      -- of a plain one what its row keeps
      plain-value : (q : ℕ) (field : FieldInfo) → numbered info.fields q ≡ Some field → is_plain_kept field ≡ true → kept_value models tables model id (q, field) ≡ kept_in row (record { 0 = q })
      plain-value q field at plain = ap (λ (r : Result Value Lack). result_unwrap_or r value.Nil) (val-plain q field at plain)

      computed-holds : (q : ℕ) (field : FieldInfo) → numbered info.fields q ≡ Some field → is_computed_from field.origin ≡ true → Holds field (kept_value models tables model id (q, field))
      computed-holds q field at computed =
          by (val models tables (cell_at q)) refl (valued (cell_at q) (there_is (row_at tables model id) row row_is) (there_is (field_at models model (record { 0 = q })) field (field_is q field at)))
        where
          by : (r : Result Value Lack) → val models tables (cell_at q) ≡ r → IsOk r → Holds field (result_unwrap_or r value.Nil)
          by (Ok v) is ok = typed (cell_at q) field (field_is q field at) computed v is (native (cell_at q) v is)
          by (Err lack) is ok = absurd (no_value (Err lack) lack refl ok)

      column-holds : (c : Column) → IsColumn is_kept info.fields c → Holds c.1 (kept_value models tables model id c)
      column-holds c is = by (is_plain_kept c.1) refl
        where
          by : (b : Bool) → is_plain_kept c.1 ≡ b → Holds c.1 (kept_value models tables model id c)
          by true plain = subst (Holds c.1) (sym (plain-value c.0 c.1 is.at plain)) (plain-holds c.0 c.1 is.at plain)
          by false plain = computed-holds c.0 c.1 is.at (computed-from c.1.origin c.1 is.passes plain)

      -- the values that are kept are those of their fields
      pub forms-hold : HoldAll (kept_fields info) (map (kept_value models tables model id) (kept_columns info))
      forms-hold = HoldAll-map (kept_value models tables model id) 1 info.fields (AllByRecursion-weaker column-holds (kept_columns info) (columns-at is_kept info))

      -- the plain ones among them are the row's
      pub forms-plain : plain_row info (map (kept_value models tables model id) (kept_columns info)) ≡ row
      forms-plain = is-plain_row info (kept_value models tables model id) row row-shape plain-value

      -- so its kept form can be read
      pub forms-read : IsReadAs info (kept_row models tables model info id row) (map (kept_value models tables model id) (kept_columns info))
      forms-read = record { hold = forms-hold; body = refl; links = ap (links_of info) (sym forms-plain) }
