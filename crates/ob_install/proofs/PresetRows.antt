-- What is known of each row that modules bring, behind those before it.
use Rattle.std.proofs.Common.{◌≡◌, ◌<◌, ◌+◌, ◌++◌, ◌∷◌, ℕ, suc, List, length, get_or, slice_index, take, drop, is_some, Some, None, Option, refl, sym, ap, subst, ◌∙◌, arith}
use Rattle.std.specs.Prelude.{All, IsSome, IsSomeAnd, option_and_then, slice_get}
use Rattle.std.proofs.Math.Seq.{split_at}
use Rattle.std.proofs.lemmas.List.{get_or-map, get_or_default, length-take-le}
use Rattle.std.proofs.lemmas.List.Elements.{All-get_or, All-map, All-weaker}
use Rattle.std.proofs.lemmas.Option.{slice_get_within}
use Rattle.ob_base.specs.declared.id.FieldNo.{FieldNo}
use Rattle.ob_base.specs.declared.id.ModelNo.{ModelNo}
use Rattle.ob_base.specs.declared.id.RecId.{RecId}
use Rattle.ob_base.specs.declared.value.Value.{Value}
use Rattle.ob_base.specs.declared.value.Value.TheVariants as value
use Rattle.ob_call.proofs.CallerLemmas.{numbered-before}
use Rattle.ob_definition.specs.Values.{HasType}
use Rattle.ob_definition.specs.declared.field_type.FieldType.{FieldType}
use Rattle.ob_definition.specs.declared.field_type.FieldType.TheVariants as type
use Rattle.ob_install.proofs.BroughtIds.{among-rises, numbers}
use Rattle.ob_orm.proofs.CallerLemmas.{holds-typed}
use Rattle.ob_install.specs.Install.{brought, given_by}
use Rattle.ob_install.specs.InstallSteps.{IsOfModels, NamesAmong}
use Rattle.ob_orm.specs.NewRowSteps.{IsTyped}
use Rattle.ob_schema.specs.Built.{numbered}
use Rattle.ob_schema.specs.Fields.{HasFieldType, IsGivable}
use Rattle.ob_schema.specs.Models.{HasField, HasModel, field_at, fields_of, model_at}
use Rattle.ob_schema.specs.Presets.{FitsModel, IsPreset, IsPresetOf, IsTargetOf}
use Rattle.ob_schema.specs.declared.info.FieldInfo.{FieldInfo}
use Rattle.ob_schema.specs.declared.info.ModelInfo.{ModelInfo}
use Rattle.ob_schema.specs.declared.preset.PresetRow.{PresetRow}
use Rattle.ob_schema.specs.declared.preset.PresetValue.{PresetValue}
use Rattle.ob_schema.specs.declared.preset.PresetValue.TheVariants as preset
use Rattle.ob_tables.proofs.CallerLemmas.{told_and}
use Rattle.ob_tables.specs.Fitting.{IsFitId}

some-and : {X : Type 0} (o : Option X) (P : X → Type 0) → IsSomeAnd o P → IsSome o
some-and None P h = absurd h
some-and (Some x) P h = refl

-- a row that is named is among those before
target-low : (before : List PresetRow) (field : FieldInfo) (n : ℕ) → IsTargetOf before field n → n < length before
target-low before field n h = let (row, at, is) = told_and (slice_get before n) (λ row. field.relation ≡ Some row.model) h in slice_get_within before n row at

names-among : (before : List PresetRow) (field : FieldInfo) (v : PresetValue) → IsPresetOf before field v → NamesAmong (length before) v
names-among before field (preset.Plain v) fit = tt
names-among before field (preset.Row n) fit = target-low before field n fit.1
names-among before field (preset.Rows ns) fit = All-weaker (IsTargetOf before field) (λ n. n < length before) (λ n is. target-low before field n is) ns fit.2

-- the field of a model, by its number
its-field : (models : List ModelInfo) (model : ModelNo) (info : ModelInfo) (number : FieldNo) (field : FieldInfo)
    → model_at models model ≡ Some info → numbered info.fields number.0 ≡ Some field → field_at models model number ≡ Some field
its-field models model info number field at own =
    ap (option_and_then (λ (i : ModelInfo). numbered (fields_of i) number.0)) at ∙ numbered-before info.fields info.hidden number.0 field own

tell-typed : (o : Option FieldInfo) (field : FieldInfo) (v : Value) → o ≡ Some field → IsGivable field v → HasFieldType o v
tell-typed o field v is given = subst (λ (p : Option FieldInfo). HasFieldType p v) (sym is) given

of-type : (t : FieldType) (v : Value) (field : FieldInfo) → field.field_type ≡ t → HasType t field.selection v → IsGivable field v
of-type t v field is has = subst (λ (s : FieldType). HasType s field.selection v) (sym is) has

module _ (models : List ModelInfo) (model : ModelNo) (ids : List RecId) (low : All IsFitId ids) (before : List PresetRow) (each : length ids ≡ length before) where
  -- a value that is brought is one of its field's type
  brought-typed : (number : FieldNo) (field : FieldInfo) (v : PresetValue) → field_at models model number ≡ Some field → IsPresetOf before field v → IsTyped models model (number, brought (numbers ids) v)
  brought-typed number field (preset.Plain v) at fit = holds-typed models model number field v at fit.0
  brought-typed number field (preset.Row n) at fit =
      let id : RecId = record { 0 = slice_index (numbers ids) n } in
      let within = target-low before field n fit.1 in
      let none : RecId = record { 0 = 0 } in
      let own : slice_index (numbers ids) n ≡ (get_or ids n none).0 = get_or-map (λ (i : RecId). i.0) ids n none 0 (omega (arith, each, within)) in
      let fits : IsFitId (get_or ids n none) = All-get_or IsFitId ids n none (omega (arith, each, within)) low in
      let names : IsFitId id = omega (arith, own, fits) in
      (tell-typed (field_at models model number) field (value.Ref id) at (of-type type.Many2one (value.Ref id) field fit.0 tt), names)
  brought-typed number field (preset.Rows ns) at fit =
      let v : Value = brought (numbers ids) (preset.Rows ns) in
      (tell-typed (field_at models model number) field v at (of-type type.Many2many v field fit.0 (among-rises (numbers ids) ns)), tt)

  given-typed : (row : PresetRow) (info : ModelInfo) → row.model ≡ model → model_at models model ≡ Some info → FitsModel before info row → All (IsTyped models model) (given_by (numbers ids) row.values)
  given-typed row info same at fits =
      All-map (IsTyped models model) (λ (given : FieldNo × PresetValue). (given.0, brought (numbers ids) given.1)) row.values
      (All-weaker (λ given. IsSomeAnd (numbered info.fields given.0.0) (λ field. IsPresetOf before field given.1)) (λ given. IsTyped models model (given.0, brought (numbers ids) given.1))
      (λ given is. let (field, own, fit) = told_and (numbered info.fields given.0.0) (λ field. IsPresetOf before field given.1) is in
      brought-typed given.0 field given.1 (its-field models model info given.0 field at own) fit)
      row.values fits.fit)

module _ (models : List ModelInfo) (rows : List PresetRow) (is : IsPreset models rows) where
  -- the row of a number fits its model
  row-fits : (n : ℕ) (row : PresetRow) → n < length rows → row ≡ get_or rows n row → IsSomeAnd (model_at models row.model) (λ info. FitsModel (take n rows) info row)
  row-fits n row within own =
      is (take n rows) row (drop (suc n) rows) (split_at rows n row within ∙ ap (λ (r : PresetRow). take n rows ++ r ∷ drop (suc n) rows) (sym own))

  -- there is its model
  pub its-model : (n : ℕ) (row : PresetRow) → n < length rows → row ≡ get_or rows n row → HasModel models row.model
  its-model n row within own = some-and (model_at models row.model) (λ info. FitsModel (take n rows) info row) (row-fits n row within own)

  -- its values name rows before it
  pub its-names : (n : ℕ) (row : PresetRow) → n < length rows → row ≡ get_or rows n row → All (λ given. NamesAmong n given.1) row.values
  its-names n row within own =
      let (info, at, fits) = told_and (model_at models row.model) (λ info. FitsModel (take n rows) info row) (row-fits n row within own) in
      let few : length (take n rows) ≡ n = length-take-le n rows (omega arith) in
      All-weaker (λ given. IsSomeAnd (numbered info.fields given.0.0) (λ field. IsPresetOf (take n rows) field given.1)) (λ given. NamesAmong n given.1)
      (λ given fit. let (field, own, fit_of) = told_and (numbered info.fields given.0.0) (λ field. IsPresetOf (take n rows) field given.1) fit in
      subst (λ (m : ℕ). NamesAmong m given.1) few (names-among (take n rows) field given.1 fit_of))
      row.values fits.fit

  -- what it gives is of its fields' types
  pub its-types : (n : ℕ) (row : PresetRow) → n < length rows → row ≡ get_or rows n row → (ids : List RecId) → All IsFitId ids → length ids ≡ n → All (IsTyped models row.model) (given_by (numbers ids) row.values)
  its-types n row within own ids low each =
      let (info, at, fits) = told_and (model_at models row.model) (λ info. FitsModel (take n rows) info row) (row-fits n row within own) in
      given-typed models row.model ids low (take n rows) (each ∙ sym (length-take-le n rows (omega arith))) row info refl at fits

  -- all are of models that are there, for fields of theirs
  pub all-known : All (IsOfModels models) rows
  all-known = λ n d within.
      let row = get_or rows n d in
      let own : row ≡ get_or rows n row = get_or_default rows n d row within in
      let (info, at, fits) = told_and (model_at models row.model) (λ info. FitsModel (take n rows) info row) (row-fits n row within own) in (
        ap is_some at,
        All-weaker (λ given. IsSomeAnd (numbered info.fields given.0.0) (λ field. IsPresetOf (take n rows) field given.1)) (λ given. HasField models row.model given.0)
            (λ given fit. let (field, place, fit_of) = told_and (numbered info.fields given.0.0) (λ field. IsPresetOf (take n rows) field given.1) fit in
            ap is_some (its-field models row.model info given.0 field at place))
            row.values fits.fit,
      )
