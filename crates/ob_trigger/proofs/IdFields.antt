-- Each model has the field `id`, by that name.
use Rattle.std.proofs.Common.{◌≡◌, ℕ, zero, suc, ◌<◌, ◌+◌, Bool, true, false, cond, not, ltb, List, [], ◌∷◌, ◌++◌, length, get_or, Option, Some, None, refl, sym, ap, subst, ◌∙◌, arith, lit<}
use Rattle.std.specs.Prelude.{Any, codes, option_and_then, option_map, slice_get}
use Rattle.std.specs.List.{position, position_or_len}
use Rattle.std.specs.Str.{bytes_eq}
use Rattle.std.proofs.lemmas.Bool.Decides.{nat_tests}
use Rattle.std.proofs.lemmas.List.Quantifiers.{position-Some}
use Rattle.std.proofs.lemmas.Option.{same_Some, slice_get-get_or}
use Rattle.std.proofs.lemmas.Slice.Eq.{bytes_eq-Decides}
use Rattle.ob_base.specs.declared.id.FieldNo.{FieldNo}
use Rattle.ob_base.specs.declared.id.ModelNo.{ModelNo}
use Rattle.ob_definition.specs.Definitions.{plain_field}
use Rattle.ob_definition.specs.declared.field_type.FieldType.TheVariants as type
use Rattle.ob_schema.specs.Built.{numbered}
use Rattle.ob_schema.specs.Models.{FieldHas, IsField, IsModel, field_at, field_named, fields_of, is_id_from, model_at}
use Rattle.ob_schema.specs.declared.info.FieldInfo.{FieldInfo}
use Rattle.ob_schema.specs.declared.info.ModelInfo.{ModelInfo}
use Rattle.ob_schema.specs.declared.info.Origin.{Origin}
use Rattle.ob_schema.specs.declared.info.Origin.TheVariants as origin
use Rattle.ob_trigger.proofs.Known.{All-numbered, tell_and}
use Rattle.ob_trigger.proofs.Lists.{both_ways}

-- what passes stands no earlier than the first that does
first_within : {X : Type 0} (p : X → Bool) (xs : List X) (k : ℕ) (y : X) → slice_get xs k ≡ Some y → p y ≡ true → position_or_len p xs < length xs
first_within p [] k y is passes = absurd cc
first_within {X = X} p (x ∷ xs) k y is passes = by (p x) refl k is (λ (k : ℕ) is. first_within p xs k y is passes)
  where
    by : (b : Bool) → p x ≡ b → (k : ℕ) → slice_get (x ∷ xs) k ≡ Some y → ((k : ℕ) → slice_get xs k ≡ Some y → position_or_len p xs < length xs) → cond (not b) (1 + position_or_len p xs) 0 < suc (length xs)
    by true same k is again = omega arith
    by false same zero is again = both_ways (p x) (ap p (same_Some x y is) ∙ passes) same
    by false same (suc k) is again = let rest = again k is in omega (arith, rest)

-- so there is a place
placed : {X : Type 0} (p : X → Bool) (xs : List X) → position_or_len p xs < length xs → position p xs ≡ Some (position_or_len p xs)
placed p xs low = let test : ltb (position_or_len p xs) (length xs) ≡ true = grind (arith, nat_tests) in ap (λ (b : Bool). cond b (Some (position_or_len p xs)) None) test

-- the one origin of fields that are their row's id
pub id_is : (o : Origin) → is_id_from o ≡ true → o ≡ origin.Id
id_is origin.Id is = refl
id_is origin.Plain is = absurd cc
id_is (origin.Delegated at) is = absurd cc
id_is (origin.Computed formula) is = absurd cc

front_at : {X : Type 0} (xs ys : List X) (k : ℕ) (x : X) → slice_get xs k ≡ Some x → slice_get (xs ++ ys) k ≡ Some x
front_at [] ys k x is = absurd cc
front_at (y ∷ xs) ys zero x is = is
front_at (y ∷ xs) ys (suc k) x is = front_at xs ys k x is

module _ (models : List ModelInfo) (model : ModelNo) (info : ModelInfo) (is : model_at models model ≡ Some info) (valid : IsModel models model info) where
  abbrev is_named : FieldInfo → Bool
  is_named field = bytes_eq field.name (codes "id")

  -- the field at a place of the named ones is that of the number behind it
  at_place : (k : ℕ) (f : FieldInfo) → slice_get info.fields k ≡ Some f → field_at models model (record { 0 = suc k }) ≡ Some f
  at_place k f found = ap (λ (o : Option ModelInfo). option_and_then (λ i. numbered (fields_of i) (suc k)) o) is ∙ front_at info.fields info.hidden k f found

  -- one of that name is the row's id
  named_id : (k : ℕ) (f : FieldInfo) → slice_get info.fields k ≡ Some f → is_named f ≡ true → FieldHas models (λ field. field.origin ≡ origin.Id) model (record { 0 = suc k })
  named_id k f found named =
      let right = All-numbered (IsField models model info) (fields_of info) (suc k) f valid.fields (front_at info.fields info.hidden k f found) in
      tell_and (field_at models model (record { 0 = suc k })) f (λ field. field.origin ≡ origin.Id) (at_place k f found) (id_is f.origin (right.id ∙ named))

  -- there is one
  pub id_named : (k : ℕ) × (f : FieldInfo) × (slice_get info.fields k ≡ Some f) × (is_named f ≡ true)
  id_named =
      let own : Any (λ (field : FieldInfo). (field.name ≡ codes "id") × (field.field_type ≡ type.Integer)) info.fields = valid.automatic 2 (plain_field (codes "id") type.Integer) (lit< tt) in
      (own.0, own.1, slice_get-get_or info.fields own.0 own.1 own.2 ∙ ap Some own.3, (bytes_eq-Decides own.1.name (codes "id")).1 own.4.0)

  -- the number that its name finds is that of the row's id
  pub id-found : (number : FieldNo) → field_named info.fields (codes "id") ≡ Some number → FieldHas models (λ field. field.origin ≡ origin.Id) model number
  id-found number found =
      let own = id_named in
      let low = first_within is_named info.fields own.0 own.1 own.2 own.3 in
      let i = position_or_len is_named info.fields in
      let at = placed is_named info.fields low in
      let known = position-Some is_named info.fields i own.1 at in
      let mine : FieldNo = record { 0 = suc i } in
      let same : mine ≡ number = same_Some mine number (sym (ap (option_map (λ (k : ℕ). let field : FieldNo = record { 0 = suc k } in field)) at) ∙ found) in
      subst (λ (n : FieldNo). FieldHas models (λ field. field.origin ≡ origin.Id) model n) same
      (named_id i (get_or info.fields i own.1) (slice_get-get_or info.fields i own.1 low) known.1)

  -- and its name finds one
  pub id-finds : field_named info.fields (codes "id") ≡ None → ⊥
  id-finds none =
      let own = id_named in
      let at = placed is_named info.fields (first_within is_named info.fields own.0 own.1 own.2 own.3) in
      let mine : FieldNo = record { 0 = suc (position_or_len is_named info.fields) } in
      let both : Some mine ≡ None = sym (ap (option_map (λ (k : ℕ). let field : FieldNo = record { 0 = suc k } in field)) at) ∙ none in
      cc

  -- so there is a field of the row's id
  pub id-there : (number : FieldNo) × FieldHas models (λ field. field.origin ≡ origin.Id) model number
  id-there = let own = id_named in (record { 0 = suc own.0 }, named_id own.0 own.1 own.2 own.3)
