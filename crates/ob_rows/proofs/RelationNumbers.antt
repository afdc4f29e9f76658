-- Relations among the first models, and among the first fields of one.
use Rattle.std.proofs.Common.{◌≡◌, ◌⊎◌, ◌↔◌, ◌+◌, ◌≤◌, inl, inr, ℕ, zero, suc, true, false, List, length, Option, Some, None, refl, sym, ap, subst, ◌∙◌, arith}
use Rattle.std.specs.Prelude.{Contains, IsSome, is_some, option_and_then}
use Rattle.std.specs.List.{slice_get}
use Rattle.std.proofs.lemmas.Bool.{cases_lt}
use Rattle.std.proofs.lemmas.Option.{slice_get_within}
use Rattle.ob_base.specs.declared.id.FieldNo.{FieldNo}
use Rattle.ob_base.specs.declared.id.ModelNo.{ModelNo}
use Rattle.ob_rows.specs.Relations.{IsRelation, relation_of}
use Rattle.ob_rows.specs.declared.relations.KeptRelation.{KeptRelation}
use Rattle.ob_schema.specs.Built.{numbered}
use Rattle.ob_schema.specs.Models.{field_at, fields_of, model_at}
use Rattle.ob_schema.specs.declared.info.FieldInfo.{FieldInfo}
use Rattle.ob_schema.specs.declared.info.ModelInfo.{ModelInfo}

-- what has a number stands at most as far as there are others
number-low : {X : Type 0} (xs : List X) (n : ℕ) → IsSome (numbered xs n) → (1 ≤ n) × (n ≤ length xs)
number-low xs zero there = absurd cc
number-low xs (suc k) there = by (slice_get xs k) refl there
  where
    by : (o : Option _) → slice_get xs k ≡ o → IsSome o → (1 ≤ suc k) × (suc k ≤ length xs)
    by None at there = absurd cc
    by (Some x) at there = let within = slice_get_within xs k x at in (omega arith, omega (arith, within))

last : (n k : ℕ) → k ≤ n + 1 → (k ≤ n) ⊎ (k ≡ n + 1)
last n k low = elim (cases_lt k (n + 1)) [ inl less ↦ inl (omega arith) | inr above ↦ inr (omega arith) ]

module _ (models : List ModelInfo) where
  pub fields-low : (model : ModelNo) (info : ModelInfo) → model_at models model ≡ Some info → (field : FieldNo) → IsSome (field_at models model field) → field.0 ≤ length (fields_of info)
  fields-low model info is field there =
      (number-low (fields_of info) field.0 (subst (λ (o : Option FieldInfo). IsSome o) (ap (λ (m : Option ModelInfo). option_and_then (λ i. numbered (fields_of i) field.0) m) is) there)).1

  pub fields-gone : (model : ModelNo) → model_at models model ≡ None → (field : FieldNo) → IsSome (field_at models model field) → ⊥
  fields-gone model none field there = let e : false ≡ true = sym (ap (λ (m : Option ModelInfo). is_some (option_and_then (λ i. numbered (fields_of i) field.0) m)) none) ∙ there in cc

  -- the field of a relation is there
  relation-field : (r : KeptRelation) → IsRelation models r → IsSome (field_at models r.model r.field)
  relation-field r is = by (field_at models r.model r.field) is
    where
      by : (o : Option FieldInfo) → option_and_then (relation_of r.model r.field) o ≡ Some r → IsSome o
      by None is = absurd cc
      by (Some info) is = refl

  -- and so is its model, both with a number from 1
  model-low : (r : KeptRelation) → IsRelation models r → (1 ≤ r.model.0) × (r.model.0 ≤ length models) × (1 ≤ r.field.0)
  model-low r is = by (model_at models r.model) refl (relation-field r is)
    where
      by : (o : Option ModelInfo) → model_at models r.model ≡ o → IsSome (option_and_then (λ i. numbered (fields_of i) r.field.0) o) → (1 ≤ r.model.0) × (r.model.0 ≤ length models) × (1 ≤ r.field.0)
      by None at there = absurd cc
      by (Some info) at there =
          let model = number-low models r.model.0 (ap (λ (m : Option ModelInfo). is_some m) at) in
          (model.0, model.1, (number-low (fields_of info) r.field.0 there).0)

  -- those of a model among its first fields
  abbrev pub OfFields : ModelNo → ℕ → KeptRelation → Type 0
  OfFields model n r = (r.model ≡ model) × (r.field.0 ≤ n) × IsRelation models r

  module _ (old now : List KeptRelation) (model : ModelNo) (n : ℕ) (before : (r : KeptRelation) → Contains now r ↔ (Contains old r ⊎ OfFields model n r)) where
    pub fields-more : (new : List KeptRelation) → ((r : KeptRelation) → Contains new r ↔ (Contains now r ⊎ ((r.model ≡ model) × (r.field ≡ record { 0 = n + 1 }) × IsRelation models r)))
        → (r : KeptRelation) → Contains new r ↔ (Contains old r ⊎ OfFields model (n + 1) r)
    fields-more new added r = (to, from)
      where
        to : Contains new r → Contains old r ⊎ OfFields model (n + 1) r
        to c = elim ((added r).0 c) [
          | inr such ↦ inr (such.0, (let number = ap (λ (f : FieldNo). f.0) such.1 in omega (arith, number)), such.2)
          | inl had ↦ elim ((before r).0 had) [ inl c ↦ inl c | inr of ↦ inr (of.0, omega (arith, of.1), of.2) ]
        ]

        from : Contains old r ⊎ OfFields model (n + 1) r → Contains new r
        from (inl c) = (added r).1 (inl ((before r).1 (inl c)))
        from (inr (own, low, is)) = elim (last n r.field.0 low) [
          | inl less ↦ (added r).1 (inl ((before r).1 (inr (own, less, is))))
          | inr equal ↦ (added r).1 (inr (own, (λ i. record { 0 = equal i }), is))
        ]

    pub fields-all : ((field : FieldNo) → IsSome (field_at models model field) → field.0 ≤ n) → (r : KeptRelation) → Contains now r ↔ (Contains old r ⊎ ((r.model ≡ model) × IsRelation models r))
    fields-all all r = (to, from)
      where
        to : Contains now r → Contains old r ⊎ ((r.model ≡ model) × IsRelation models r)
        to c = elim ((before r).0 c) [ inl had ↦ inl had | inr of ↦ inr (of.0, of.2) ]

        from : Contains old r ⊎ ((r.model ≡ model) × IsRelation models r) → Contains now r
        from (inl had) = (before r).1 (inl had)
        from (inr (own, is)) = (before r).1 (inr (own, all r.field (subst (λ (m : ModelNo). IsSome (field_at models m r.field)) own (relation-field r is)), is))

  pub fields-none : (old : List KeptRelation) (model : ModelNo) (r : KeptRelation) → Contains old r ↔ (Contains old r ⊎ OfFields model 0 r)
  fields-none old model r = (λ c. inl c, by)
    where
      by : Contains old r ⊎ OfFields model 0 r → Contains old r
      by (inl c) = c
      by (inr (own, low, is)) = absurd (let at = model-low r is in omega (arith, at.2))

  -- those of the first models
  abbrev pub OfModels : ℕ → KeptRelation → Type 0
  OfModels n r = (r.model.0 ≤ n) × IsRelation models r

  pub models-none : (none : List KeptRelation) → ((r : KeptRelation) → Contains none r → ⊥) → (r : KeptRelation) → Contains none r ↔ OfModels 0 r
  models-none none empty r = (λ c. absurd (empty r c), λ of. absurd (let at = model-low r of.1 in omega (arith, at.0, of.0)))

  pub models-more : (now new : List KeptRelation) (n : ℕ) → ((r : KeptRelation) → Contains now r ↔ OfModels n r)
      → ((r : KeptRelation) → Contains new r ↔ (Contains now r ⊎ ((r.model ≡ record { 0 = n + 1 }) × IsRelation models r))) → (r : KeptRelation) → Contains new r ↔ OfModels (n + 1) r
  models-more now new n before added r = (to, from)
    where
      to : Contains new r → OfModels (n + 1) r
      to c = elim ((added r).0 c) [
        | inl had ↦ (let of = (before r).0 had in (omega (arith, of.0), of.1))
        | inr such ↦ ((let number = ap (λ (m : ModelNo). m.0) such.0 in omega (arith, number)), such.1)
      ]

      from : OfModels (n + 1) r → Contains new r
      from (low, is) = elim (last n r.model.0 low) [
        | inl less ↦ (added r).1 (inl ((before r).1 (less, is)))
        | inr equal ↦ (added r).1 (inr ((λ i. record { 0 = equal i }), is))
      ]

  pub models-all : (now : List KeptRelation) (n : ℕ) → length models ≤ n → ((r : KeptRelation) → Contains now r ↔ OfModels n r) → (r : KeptRelation) → Contains now r ↔ IsRelation models r
  models-all now n all before r = (λ c. ((before r).0 c).1, λ is. (before r).1 ((let at = model-low r is in omega (arith, at.1)), is))
