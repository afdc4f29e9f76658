-- Edits that may be asked for, by the fields of their model.
use Rattle.std.proofs.Common.{◌≡◌, ◌↔◌, ◌≤◌, ℕ, zero, suc, true, List, Option, Some, None, get_or, length, arith, refl, sym, subst, ◌∙◌}
use Rattle.std.specs.Prelude.{All, IsSomeAnd, option_and_then}
use Rattle.std.specs.List.{slice_get}
use Rattle.std.proofs.lemmas.Option.{slice_get_within}
use Rattle.ob_base.specs.declared.id.FieldNo.{FieldNo}
use Rattle.ob_base.specs.declared.id.ModelNo.{ModelNo}
use Rattle.ob_base.specs.declared.value.Value.{Value}
use Rattle.ob_schema.specs.Built.{numbered}
use Rattle.ob_schema.specs.Models.{FieldHas, IsCondition, fields_of, model_at}
use Rattle.ob_schema.specs.declared.info.FieldInfo.{FieldInfo}
use Rattle.ob_schema.specs.declared.info.ModelInfo.{ModelInfo}
use Rattle.ob_tables.specs.Fitting.{AreFitIn, AreFitValues, IsFitIn}
use Rattle.ob_tables.proofs.Apart.{AreApart}
use Rattle.ob_tables.proofs.Columns.{keeps}
use Rattle.ob_tables.proofs.FitTables.{known_at, known_by}
use Rattle.ob_tables.proofs.GivenValues.{fit-keeps, keeps-fields}

-- a field that rows keep is one of the list
kept_within : (fields : List FieldInfo) (q : ℕ) → keeps (numbered fields q) ≡ true → q ≤ length fields
kept_within fields zero kept = omega arith
kept_within fields (suc n) kept = by (slice_get fields n) refl kept
  where
    by : (found : Option FieldInfo) → slice_get fields n ≡ found → keeps found ≡ true → suc n ≤ length fields
    by None is kept = absurd cc
    by (Some field) is kept = slice_get_within fields n field is

module _ (models : List ModelInfo) (model : ModelNo) (info : ModelInfo) (at : model_at models model ≡ Some info) (values : List (FieldNo × Value)) where
  -- values for fields of the model
  abbrev pub AreOfFields : Type 0
  AreOfFields = All (λ given. FieldHas models (λ field. IsFitIn field given.1) model given.0) values

  abbrev OfFields : Option ModelInfo → Type 0
  OfFields found = All (λ given. IsSomeAnd (option_and_then (λ i. numbered (fields_of i) given.0.0) found) (λ field. IsFitIn field given.1)) values

  -- they fit where they are apart
  pub fit_apart : (AreOfFields × AreApart values) ↔ AreFitIn models model values
  fit_apart = (
    λ (own, apart). known_by (model_at models model) (λ i. AreFitValues i values) info at (subst OfFields at own, apart),
    λ fit. let known = known_at (model_at models model) (λ i. AreFitValues i values) info at fit in (subst OfFields (sym at) known.0, known.1),
  )

  -- their fields are few
  pub low_numbers : (few : ℕ) → length info.fields ≤ few → All IsCondition info.hidden → AreOfFields → All (λ given. given.0.0 ≤ few) values
  low_numbers few short conditions own k d within =
      let given = subst OfFields at own k d within in
      let q : ℕ = (get_or values k d).0.0 in
      let low = kept_within info.fields q (sym (keeps-fields info conditions q) ∙ fit-keeps (numbered (fields_of info) q) (get_or values k d).1 given) in
      omega (arith, low, short)
