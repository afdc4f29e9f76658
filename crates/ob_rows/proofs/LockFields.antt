-- The condition that locks rows has a number among the fields of its model.
use Rattle.std.proofs.Common.{◌≡◌, ◌+◌, ◌<◌, ℕ, zero, suc, Bool, List, [], ◌∷◌, length, length-append, Option, Some, None, option_map, position, refl, sym, ap, subst, ◌∙◌, arith}
use Rattle.std.specs.Prelude.{IfSome, IsSome, bytes_eq, codes, option_and_then}
use Rattle.std.specs.List.{slice_get}
use Rattle.ob_base.specs.declared.id.FieldNo.{FieldNo}
use Rattle.ob_base.specs.declared.id.ModelNo.{ModelNo}
use Rattle.ob_rows.specs.Locks.{locking_field}
use Rattle.ob_schema.specs.Built.{numbered}
use Rattle.ob_schema.specs.Models.{HasField, fields_of, model_at}
use Rattle.ob_schema.specs.declared.info.FieldInfo.{FieldInfo}
use Rattle.ob_schema.specs.declared.info.ModelInfo.{ModelInfo}

-- what holds of the model that there is
tell_if : {X : Type 0} (o : Option X) (x : X) (P : X → Type 0) → o ≡ Some x → P x → IfSome o P
tell_if {X = X} o x P is p = subst (λ (q : Option X). IfSome q P) (sym is) p

slice-there : {X : Type 0} (xs : List X) (k : ℕ) → k < length xs → IsSome (slice_get xs k)
slice-there [] k within = absurd (omega (arith, within))
slice-there (x ∷ xs) zero within = refl
slice-there (x ∷ xs) (suc k) within = slice-there xs k (omega (arith, within))

numbered-there : {X : Type 0} (xs : List X) (n : ℕ) → n < length xs → IsSome (numbered xs (n + 1))
numbered-there {X = X} xs n within = let next : suc n ≡ n + 1 = omega arith in subst (λ (k : ℕ). IsSome (numbered xs k)) next (slice-there xs n within)

module _ (models : List ModelInfo) (model : ModelNo) (info : ModelInfo) (at : model_at models model ≡ Some info) where
  abbrev IsLocking : FieldInfo → Bool
  IsLocking field = bytes_eq field.name (codes "locked")

  pub lock-none : position IsLocking info.hidden ≡ None → IfSome (model_at models model) (λ i. ◌≡◌ {A = Option FieldNo} None (locking_field i))
  lock-none none = tell_if (model_at models model) info (λ i. ◌≡◌ {A = Option FieldNo} None (locking_field i)) at (sym (ap (option_map (λ (i : ℕ). let number : FieldNo = record { 0 = length info.fields + suc i } in number)) none))

  module _ (place : ℕ) (is : position IsLocking info.hidden ≡ Some place) where
    pub lock-number : IfSome (model_at models model) (λ i. ◌≡◌ {A = Option FieldNo} (Some (record { 0 = length info.fields + place + 1 })) (locking_field i))
    lock-number =
        let next : length info.fields + place + 1 ≡ length info.fields + suc place = omega arith in
        tell_if (model_at models model) info (λ i. ◌≡◌ {A = Option FieldNo} (Some (record { 0 = length info.fields + place + 1 })) (locking_field i)) at
        (ap (λ (n : ℕ). let number : FieldNo = record { 0 = n } in Some number) next ∙ sym (ap (option_map (λ (i : ℕ). let number : FieldNo = record { 0 = length info.fields + suc i } in number)) is))

    pub lock-there : place < length info.hidden → HasField models model (record { 0 = length info.fields + place + 1 })
    lock-there within =
        let all = length-append info.fields info.hidden in
        let low : length info.fields + place < length (fields_of info) = omega (arith, all, within) in
        subst (λ (o : Option ModelInfo). IsSome (option_and_then (λ i. numbered (fields_of i) (length info.fields + place + 1)) o)) (sym at) (numbered-there (fields_of info) (length info.fields + place) low)
