-- The condition that locks rows has a number among the fields of its model.
use Rattle.std.proofs.Common.{◌≡◌, ◌+◌, ◌<◌, ℕ, zero, suc, List, [], ◌∷◌, length, length-append, Option, Some, sym, subst, refl, arith}
use Rattle.std.specs.Prelude.{IsSome, option_and_then}
use Rattle.std.specs.List.{slice_get}
use Rattle.ob_base.specs.declared.id.ModelNo.{ModelNo}
use Rattle.ob_schema.specs.Built.{numbered}
use Rattle.ob_schema.specs.Models.{HasField, fields_of, model_at}
use Rattle.ob_schema.specs.declared.info.ModelInfo.{ModelInfo}

slice-there : {X : Type 0} (xs : List X) (k : ℕ) → k < length xs → IsSome (slice_get xs k)
slice-there [] k within = absurd (omega (arith, within))
slice-there (x ∷ xs) zero within = refl
slice-there (x ∷ xs) (suc k) within = slice-there xs k (omega (arith, within))

numbered-there : {X : Type 0} (xs : List X) (n : ℕ) → n < length xs → IsSome (numbered xs (n + 1))
numbered-there {X = X} xs n within = let next : suc n ≡ n + 1 = omega arith in subst (λ (k : ℕ). IsSome (numbered xs k)) next (slice-there xs n within)

-- a condition stands behind the named fields
pub condition-there : (models : List ModelInfo) (model : ModelNo) (info : ModelInfo) (place : ℕ) → model_at models model ≡ Some info → place < length info.hidden
    → HasField models model (record { 0 = length info.fields + place + 1 })
condition-there models model info place at within =
    let all = length-append info.fields info.hidden in
    let low : length info.fields + place < length (fields_of info) = omega (arith, all, within) in
    subst (λ (o : Option ModelInfo). IsSome (option_and_then (λ i. numbered (fields_of i) (length info.fields + place + 1)) o)) (sym at) (numbered-there (fields_of info) (length info.fields + place) low)
