-- Rows of sound tables have ids of 1 to the limit.
use Rattle.std.proofs.Common.{◌≡◌, ◌<◌, ◌⊎◌, inl, inr, true, List, Option, Some, None, refl, arith}
use Rattle.std.specs.Prelude.{IsSome, IsSomeAnd, codes}
use Rattle.ob_base.specs.Ids.{IsId}
use Rattle.ob_base.specs.Limits.{max_id}
use Rattle.ob_base.specs.declared.id.Cell.{Cell}
use Rattle.ob_base.specs.declared.id.FieldNo.{FieldNo}
use Rattle.ob_base.specs.declared.id.ModelNo.{ModelNo}
use Rattle.ob_base.specs.declared.id.RecId.{RecId}
use Rattle.ob_base.specs.declared.refusal.BrokenKind.TheVariants as kind
use Rattle.ob_cache.proofs.CallerLemmas.{id-found, id-there}
use Rattle.ob_schema.specs.Broken.{AreSound}
use Rattle.ob_schema.specs.Models.{IsRegistry, field_at, field_named, is_id_from, model_at}
use Rattle.ob_schema.specs.Tables.{IsRowOf, PlainRow, Tables, row_at}
use Rattle.ob_schema.specs.declared.info.FieldInfo.{FieldInfo}
use Rattle.ob_schema.specs.declared.info.ModelInfo.{ModelInfo}
use Rattle.ob_tables.proofs.CallerLemmas.{is_there, known_if, tell_and, told_and}

module _ (models : List ModelInfo) (tables : Tables) (registry : IsRegistry models) (sound : AreSound models tables) where
  -- the id of a row that is there is within its limits
  pub id-within : (model : ModelNo) (id : RecId) → IsSome (row_at tables model id) → IsId id
  id-within model id there = by (field_named info.0.fields (codes "id")) refl
    where
      row : (r : PlainRow) × (row_at tables model id ≡ Some r)
      row = is_there (row_at tables model id) there

      info : (i : ModelInfo) × (model_at models model ≡ Some i) × IsRowOf i row.0
      info = told_and (model_at models model) (λ (i : ModelInfo). IsRowOf i row.0) (known_if (row_at tables model id) row.0 (λ r. IsSomeAnd (model_at models model) (λ i. IsRowOf i r)) row.1 (sound.fits.rows model id))

      limits : (id.0 ≡ 0 → ⊥) → (max_id < id.0 → ⊥) → IsId id
      limits none far = (omega arith, omega arith)

      by : (o : Option FieldNo) → field_named info.0.fields (codes "id") ≡ o → IsId id
      by None is = absurd (id-there models registry model info.0 info.1 is)
      by (Some found) is =
          let cell : Cell = record { model = model; id = id; field = found } in
          let field = told_and (field_at models model found) (λ (f : FieldInfo). is_id_from f.origin ≡ true) (id-found models registry model info.0 info.1 found is) in
          let past : (id.0 ≡ 0) ⊎ (max_id < id.0) → ⊥ = λ p.
          sound.sound (record { kind = kind.Limit; cell = cell })
          (inl (there, tell_and (field_at models model found) field.0 (λ f. (is_id_from f.origin ≡ true) × ((id.0 ≡ 0) ⊎ (max_id < id.0))) field.1 (field.2, p))) in
          limits (λ e. past (inl e)) (λ lt. past (inr lt))
