-- Fields by their numbers among those of a model, and by their names.
use Rattle.std.proofs.Common.{◌≡◌, ℕ, zero, suc, ◌<◌, ◌≤◌, Bool, List, [], ◌∷◌, ◌++◌, length, length-append, Option, Some, None, refl, ap, ◌∙◌, arith}
use Rattle.std.specs.Prelude.{option_map, position, slice_get}
use Rattle.std.specs.Str.{bytes_eq}
use Rattle.std.proofs.lemmas.List.Quantifiers.{position-Some}
use Rattle.std.proofs.lemmas.List.{get_or_append_left}
use Rattle.std.proofs.lemmas.Option.{get_or_from_slice_get, same_Some, slice_get-get_or, slice_get_within}
use Rattle.ob_base.specs.declared.id.FieldNo.{FieldNo}
use Rattle.ob_schema.specs.Built.{numbered}
use Rattle.ob_schema.specs.Models.{field_named}
use Rattle.ob_schema.specs.declared.info.FieldInfo.{FieldInfo}

-- what stands at a place stands there with more behind
pub slice_get-before : {X : Type 0} (xs ys : List X) (i : ℕ) (x : X) → slice_get xs i ≡ Some x → slice_get (xs ++ ys) i ≡ Some x
slice_get-before xs ys i x at =
    let lt = slice_get_within xs i x at in
    slice_get-get_or (xs ++ ys) i x (omega (arith, length-append xs ys, lt)) ∙ ap Some (get_or_append_left xs ys x i lt ∙ get_or_from_slice_get xs i x x at)

-- what has a number has it with more behind
pub numbered-before : {X : Type 0} (xs ys : List X) (n : ℕ) (x : X) → numbered xs n ≡ Some x → numbered (xs ++ ys) n ≡ Some x
numbered-before xs ys zero x at = at
numbered-before xs ys (suc i) x at = slice_get-before xs ys i x at

-- what is found is within
position-within : (p : FieldInfo → Bool) (fields : List FieldInfo) (i : ℕ) → position p fields ≡ Some i → i < length fields
position-within p [] i at = absurd cc
position-within p (f ∷ fields) i at = (position-Some p (f ∷ fields) i f at).0

-- the number of a field that a name has is from 1 to how many there are
pub named-range : (fields : List FieldInfo) (name : List ℕ) (number : FieldNo) → Some number ≡ field_named fields name → (0 < number.0) × (number.0 ≤ length fields)
named-range fields name number named = by (position test fields) refl named where
  test : FieldInfo → Bool
  test field = bytes_eq field.name name

  by : (o : Option ℕ) → position test fields ≡ o → Some number ≡ option_map (λ i. record { 0 = suc i }) o → (0 < number.0) × (number.0 ≤ length fields)
  by None at is = absurd cc
  by (Some i) at is =
      let within = position-within test fields i at in
      let same : number.0 ≡ suc i = ap (λ (n : FieldNo). n.0) (same_Some number (record { 0 = suc i }) is) in
      (omega arith, omega arith)
