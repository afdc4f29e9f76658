-- The field `id` of a model, as it is found by its name.
use Rattle.std.proofs.Common.{◌≡◌, List, Option, Some, None, IsSomeAnd, sym, refl, ◌∙◌}
use Rattle.std.specs.Prelude.{IfSome, IsSome, codes, true}
use Rattle.std.proofs.lemmas.Bool.{false≢true}
use Rattle.ob_base.specs.declared.id.FieldNo.{FieldNo}
use Rattle.ob_base.specs.declared.id.ModelNo.{ModelNo}
use Rattle.ob_cache.proofs.CallerLemmas.{id-found, id-there}
use Rattle.ob_schema.specs.Models.{HasModel, IsRegistry, field_at, field_named, is_id_from, model_at}
use Rattle.ob_schema.specs.declared.info.ModelInfo.{ModelInfo}

-- what the look-up answered
abbrev pub FoundId : Option ModelInfo → Option FieldNo → Type 0
FoundId o r = IfSome o (λ info. r ≡ field_named info.fields (codes "id"))

module _ (models : List ModelInfo) (registry : IsRegistry models) (model : ModelNo) where
  -- it finds the field
  pub no_id : (r : Option FieldNo) → HasModel models model → FoundId (model_at models model) r → r ≡ None → ⊥
  no_id r there found none = by (model_at models model) refl there found where
    by : (o : Option ModelInfo) → model_at models model ≡ o → IsSome o → FoundId o r → ⊥
    by None at there found = absurd (false≢true there)
    by (Some info) at there found = id-there models registry model info at (sym found ∙ none)

  -- which is the id
  pub id_found : (r : Option FieldNo) (field : FieldNo) → HasModel models model → FoundId (model_at models model) r → r ≡ Some field → IsSomeAnd (field_at models model field) (λ info. is_id_from info.origin ≡ true)
  id_found r field there found is = by (model_at models model) refl there found where
    by : (o : Option ModelInfo) → model_at models model ≡ o → IsSome o → FoundId o r → IsSomeAnd (field_at models model field) (λ info. is_id_from info.origin ≡ true)
    by None at there found = absurd (false≢true there)
    by (Some info) at there found = id-found models registry model info at field (sym found ∙ is)
