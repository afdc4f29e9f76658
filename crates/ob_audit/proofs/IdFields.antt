-- The field `id` of a model is the one that its name finds.
use Rattle.std.proofs.Common.{◌≡◌, ◌<◌, ◌≤◌, ◌⊎◌, ◌++◌, inl, inr, ℕ, zero, suc, Bool, true, false, List, [], ◌∷◌, map, length, get_or, Option, Some, None, option_map, position, IsSomeAnd, sym, ap, subst, ◌∙◌, arith, refl}
use Rattle.std.specs.Prelude.{codes, option_and_then}
use Rattle.std.specs.Cmp.{tied_itself}
use Rattle.std.specs.Cmp.Lexicographic.{slice_cmp}
use Rattle.std.specs.List.{position_or_len, slice_get}
use Rattle.std.specs.Ordering.{nat_cmp}
use Rattle.std.specs.Str.{bytes_eq}
use Rattle.std.specs.declared.cmp.Ordering.TheVariants.{Less, Equal}
use Rattle.std.proofs.lemmas.Cmp.{nat_list_cmp_total}
use Rattle.std.proofs.lemmas.List.Elements.{recursion_from_All}
use Rattle.std.proofs.lemmas.Grind.{common_steps}
use Rattle.std.proofs.lemmas.List.Quantifiers.{position-Some}
use Rattle.std.proofs.lemmas.List.Sums.{fails_before_first}
use Rattle.std.proofs.lemmas.Slice.Eq.{bytes_eq-Decides}
use Rattle.std.proofs.lemmas.Option.{get_or_from_slice_get, same_Some, slice_get-get_or, slice_get-map, slice_get_within}
use Rattle.ob_base.specs.declared.id.FieldNo.{FieldNo}
use Rattle.ob_base.specs.declared.id.ModelNo.{ModelNo}
use Rattle.ob_audit.specs.Reading.{IsOneOf}
use Rattle.ob_audit.proofs.StoreTables.{of-one}
use Rattle.ob_audit.proofs.ModelFields.{field-of, id-field}
use Rattle.ob_schema.specs.Built.{numbered}
use Rattle.ob_schema.specs.Models.{IsCondition, IsRegistry, field_at, field_named, fields_of, is_computed_from, is_id_from, model_at}
use Rattle.ob_schema.specs.declared.info.FieldInfo.{FieldInfo}
use Rattle.ob_schema.specs.declared.info.ModelInfo.{ModelInfo}
use Rattle.ob_schema.specs.declared.info.Origin.{Origin}
use Rattle.ob_schema.specs.declared.info.Origin.TheVariants as origin
use Rattle.ob_tables.proofs.CallerLemmas.{Field-at, tell_and, told_and}

-- what stands at a place is one of a list
one-at : {X : Type 0} (xs : List X) (k : ℕ) (x : X) → slice_get xs k ≡ Some x → IsOneOf x xs
one-at [] k x is = absurd cc
one-at (y ∷ xs) zero x is = inl (sym (same_Some y x is))
one-at (y ∷ xs) (suc k) x is = inr (one-at xs k x is)

-- a list without a place has none that passes
no-place : {X : Type 0} (p : X → Bool) (xs : List X) (k : ℕ) (x : X) → position p xs ≡ None → slice_get xs k ≡ Some x → p x ≡ true → ⊥
no-place p xs k x none at passes =
    let far : length xs ≤ position_or_len p xs = grind (arith, common_steps) in
    let within = slice_get_within xs k x at in
    let before : k < position_or_len p xs = omega arith in
    let fails = fails_before_first p xs k x before in
    let same = get_or_from_slice_get xs k x x at in
    let wrong : true ≡ false = sym passes ∙ ap p (sym same) ∙ fails in
    cc

module _ (models : List ModelInfo) (registry : IsRegistry models) (model : ModelNo) (info : ModelInfo) (info_is : model_at models model ≡ Some info) where
  abbrev is_named : FieldInfo → Bool
  is_named field = bytes_eq field.name (codes "id")

  abbrev numbered_at : ℕ → FieldNo
  numbered_at i = record { 0 = suc i }

  -- what is found is the field `id`
  pub id-found : (found : FieldNo) → field_named info.fields (codes "id") ≡ Some found → IsSomeAnd (field_at models model found) (λ field. is_id_from field.origin ≡ true)
  id-found found is = by (position is_named info.fields) refl is
    where
      by : (o : Option ℕ) → position is_named info.fields ≡ o → option_map numbered_at o ≡ Some found → IsSomeAnd (field_at models model found) (λ field. is_id_from field.origin ≡ true)
      by None none is = absurd cc
      by (Some i) at is =
          let own = id-field models registry model info info_is in
          let placed = position-Some is_named info.fields i own.field at in
          let field : FieldInfo = get_or info.fields i own.field in
          let here = field-of models model info (suc i) field info_is (slice_get-get_or info.fields i own.field placed.0) in
          let is_id : is_id_from field.origin ≡ true = (Field-at models model (record { 0 = suc i }) field registry here).right.id ∙ placed.1 in
          subst (λ (number : FieldNo). IsSomeAnd (field_at models model number) (λ field. is_id_from field.origin ≡ true)) (same_Some (numbered_at i) found is)
          (tell_and (field_at models model (numbered_at i)) field (λ field. is_id_from field.origin ≡ true) here is_id)

  -- and one is found
  pub id-there : field_named info.fields (codes "id") ≡ None → ⊥
  id-there is = by (position is_named info.fields) refl is
    where
      by : (o : Option ℕ) → position is_named info.fields ≡ o → option_map numbered_at o ≡ None → ⊥
      by (Some i) at is = cc
      by None none is =
          let own = id-field models registry model info info_is in
          no-place is_named info.fields own.place own.field none own.named (ap (λ (name : List ℕ). bytes_eq name (codes "id")) own.name)

id-not-computed : (o : Origin) → is_id_from o ≡ true → is_computed_from o ≡ true → ⊥
id-not-computed origin.Id id computed = cc
id-not-computed origin.Plain id computed = cc
id-not-computed (origin.Delegated at) id computed = cc
id-not-computed (origin.Computed formula) id computed = cc

-- one of two lists behind one another stands in the first, or is one of the second
front-or-behind : {X : Type 0} (xs ys : List X) (k : ℕ) (x : X) → slice_get (xs ++ ys) k ≡ Some x → (slice_get xs k ≡ Some x) ⊎ IsOneOf x ys
front-or-behind [] ys k x at = inr (one-at ys k x at)
front-or-behind (y ∷ xs) ys zero x at = inl at
front-or-behind (y ∷ xs) ys (suc k) x at = front-or-behind xs ys k x at

module _ (models : List ModelInfo) (registry : IsRegistry models) (model : ModelNo) where
  abbrev IsId : FieldNo → Type 0
  IsId number = IsSomeAnd (field_at models model number) (λ field. is_id_from field.origin ≡ true)

  -- a field `id` stands among the named ones
  record IsIdAt (info : ModelInfo) (number : FieldNo) : Type 0 where
    place : ℕ
    number_is : number.0 ≡ suc place
    named : slice_get (map (λ (field : FieldInfo). field.name) info.fields) place ≡ Some (codes "id")

  id-at : (info : ModelInfo) → model_at models model ≡ Some info → (number : FieldNo) → IsId number → IsIdAt info number
  id-at info info_is number is =
      let field = told_and (field_at models model number) (λ field. is_id_from field.origin ≡ true) is in
      by number.0 refl field.0 field.1 field.2 (ap (option_and_then (λ (i : ModelInfo). numbered (fields_of i) number.0)) (sym info_is) ∙ field.1)
    where
      by : (n : ℕ) → number.0 ≡ n → (field : FieldInfo) → field_at models model number ≡ Some field → is_id_from field.origin ≡ true → numbered (fields_of info) number.0 ≡ Some field → IsIdAt info number
      by zero is field at id listed = absurd (let none : numbered (fields_of info) 0 ≡ Some field = ap (numbered (fields_of info)) (sym is) ∙ listed in cc)
      by (suc k) is field at id listed = elim (front-or-behind info.fields info.hidden k field (ap (numbered (fields_of info)) (sym is) ∙ listed)) [
        | inl named ↦ record {
          place = k;
          number_is = is;
          named = slice_get-map (λ (f : FieldInfo). f.name) info.fields k ∙ ap (option_map (λ (f : FieldInfo). f.name)) named
              ∙ ap Some ((bytes_eq-Decides field.name (codes "id")).0 (sym (Field-at models model number field registry at).right.id ∙ id));
        }
        | inr hidden ↦ absurd (id-not-computed field.origin id (of-one IsCondition info.hidden field (recursion_from_All IsCondition info.hidden (registry.each model info info_is).conditions) hidden).computed)
      ]

  -- a model has one field `id`
  pub one-id : (a b : FieldNo) → IsId a → IsId b → a.0 < b.0 → ⊥
  one-id a b is_a is_b low =
      let info = (Field-at models model a (told_and (field_at models model a) (λ field. is_id_from field.origin ≡ true) is_a).0 registry (told_and (field_at models model a) (λ field. is_id_from field.origin ≡ true) is_a).1) in
      let first = id-at info.info info.model_is a is_a in
      let second = id-at info.info info.model_is b is_b in
      let names = map (λ (field : FieldInfo). field.name) info.info.fields in
      let before : first.place < second.place = lower a.0 b.0 first.place second.place first.number_is second.number_is low in
      let ordered = info.valid.ordered first.place second.place (codes "id") before (slice_get_within names second.place (codes "id") second.named) in
      less-same (codes "id")
      ((λ i. slice_cmp nat_cmp (sym (get_or_from_slice_get names first.place (codes "id") (codes "id") first.named) i) (sym (get_or_from_slice_get names second.place (codes "id") (codes "id") second.named) i)) ∙ ordered)
    where
      lower : (m n i j : ℕ) → m ≡ suc i → n ≡ suc j → m < n → i < j
      lower m n i j is_m is_n low = omega arith

      less-same : (name : List ℕ) → slice_cmp nat_cmp name name ≡ Less → ⊥
      less-same name less = let both : Less ≡ Equal = sym less ∙ tied_itself nat_list_cmp_total name in cc
