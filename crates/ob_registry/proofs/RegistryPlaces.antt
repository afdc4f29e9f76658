-- The models and fields of a registry, place by place.
use Rattle.std.proofs.Common.{◌≡◌, ◌≢◌, ℕ, zero, suc, ◌<◌, inl, inr, Bool, true, false, is_some, Option, Some, None, option_map, List, [], ◌∷◌, ◌++◌, length, get_or, refl, sym, ap, subst, ◌∙◌, length-append, arith}
use Rattle.std.specs.Prelude.{All, IsSome, IsSomeAnd, option_and_then, slice_get}
use Rattle.std.specs.List.{AllPairs, AllZip, position_or_len}
use Rattle.std.specs.Str.{bytes_eq}
use Rattle.std.proofs.lemmas.List.Folds.{find_at}
use Rattle.std.proofs.lemmas.List.Sums.{position_or_len_is}
use Rattle.std.proofs.lemmas.List.Sorted.{length_permutation}
use Rattle.std.proofs.lemmas.Option.{get_or_from_slice_get, none-some, option_and_then_some, same_Some, slice_get_within}
use Rattle.std.proofs.lemmas.Slice.Eq.{bytes_eq-Decides}
use Rattle.ob_base.specs.declared.id.FieldNo.{FieldNo}
use Rattle.ob_base.specs.declared.id.ModelNo.{ModelNo}
use Rattle.ob_definition.specs.Gathered.{Gathered}
use Rattle.ob_definition.specs.Members.{Member, hidden_members, model_at, model_number}
use Rattle.ob_schema.specs.declared.info.FieldInfo.{FieldInfo}
use Rattle.ob_schema.specs.declared.info.ModelInfo.{ModelInfo}
use Rattle.ob_registry.specs.declared.model.Model.{Model as KeptModel}
use Rattle.ob_registry.specs.Building.{AreResolved, HasNativeDefault, HasNativeDefaults}
use Rattle.ob_schema.specs.Built.{IsFieldOf, IsModelOf, numbered}
use Rattle.ob_registry.specs.ModelFields.{hidden_in, members_in}
use Rattle.ob_registry.specs.Modelling.{AreModelled, IsModelled}
use Rattle.ob_schema.specs.Models.{field_at, fields_of, model_at as info_at}
use Rattle.ob_schema.specs.Paths.{step_at}
use Rattle.ob_schema.specs.Strata.{IsMember}
use Rattle.ob_registry.proofs.ModelPlaces.{model_there, zip_some}
use Rattle.ob_registry.proofs.NamedFields.{back_count, hidden_moved, is_member_at, member_parts, named_count}
use Rattle.ob_registry.proofs.Origins.{position-found}
use Rattle.ob_registry.specs.RegistryOf.{HasFieldInfo, HasInfo, IsFieldFrom, IsInfoFrom, IsRegistryOf}

-- the value of an option with a fact
pub value_there : {X : Type 0} (P : X → Type 0) (o : Option X) → IsSomeAnd o P → (x : X) × (o ≡ Some x) × P x
value_there P None is = absurd is
value_there P (Some x) is = (x, refl, is)

-- two lists that stand place by place
pub zip_there : {A B : Type 0} (R : A → B → Type 0) (xs : List A) (ys : List B) → AllZip R xs ys → (i : ℕ) (x : A) → slice_get xs i ≡ Some x → IsSomeAnd (slice_get ys i) (λ y. R x y)
zip_there R [] [] all i x at = absurd (none-some x at)
zip_there R [] (y ∷ ys) all i x at = absurd all
zip_there R (z ∷ xs) [] all i x at = absurd all
zip_there {A} R (z ∷ xs) (y ∷ ys) all zero x at = subst (λ (a : A). R a y) (same_Some z x at) all.0
zip_there R (z ∷ xs) (y ∷ ys) all (suc i) x at = zip_there R xs ys all.1 i x at

abbrev pub model_no : ℕ → ModelNo
model_no k = record { 0 = suc k }

-- what has a number has a place
pub numbered_place : {X : Type 0} (xs : List X) (n : ℕ) (x : X) → numbered xs n ≡ Some x → (k : ℕ) × (n ≡ suc k) × (slice_get xs k ≡ Some x)
numbered_place xs zero x at = absurd (none-some x at)
numbered_place xs (suc k) x at = (k, refl, at)

pub model_place : (models : List Gathered) (number : ModelNo) (g : Gathered) → model_at models number.0 ≡ Some g → (k : ℕ) × (number ≡ model_no k) × (slice_get models k ≡ Some g)
model_place models number g at = by number.0 refl at
  where
    by : (n : ℕ) → number.0 ≡ n → model_at models n ≡ Some g → (k : ℕ) × (number ≡ model_no k) × (slice_get models k ≡ Some g)
    by zero e there = absurd (none-some g there)
    by (suc k) e there = (k, ap (λ (n : ℕ). let m : ModelNo = record { 0 = n } in m) e, there)

-- the number of a model is that of its place
pub place_number : (models : List Gathered) → AllPairs (λ a b. a.name ≢ b.name) models → (k : ℕ) (g : Gathered) → slice_get models k ≡ Some g → model_number models g.name ≡ Some (model_no k)
place_number models distinct k g at =
    ap (λ (o : Option ℕ). option_map model_no o) (position-found p models g (find_at p models ∙ ap (slice_get models) first ∙ at) ∙ ap (λ (i : ℕ). Some i) first)
  where
    p : Gathered → Bool
    p m = bytes_eq m.name g.name

    inside : k < length models
    inside = slice_get_within models k g at

    read : get_or models k g ≡ g
    read = get_or_from_slice_get models k g g at

    test : (b : Bool) (m : Gathered) → bytes_eq m.name g.name ≡ b → (m.name ≡ g.name → ⊥) → b ≡ false
    test true m e apart = absurd (apart ((bytes_eq-Decides m.name g.name).0 e))
    test false m e apart = refl

    before : (i : ℕ) → i < k → p (get_or models i g) ≡ false
    before i lt = test (p (get_or models i g)) (get_or models i g) refl (λ same. distinct i k g lt inside (same ∙ ap (λ (m : Gathered). m.name) (sym read)))

    first : position_or_len p models ≡ k
    first = position_or_len_is p models k g (let low = inside in omega arith) before (λ low. (bytes_eq-Decides (get_or models k g).name g.name).1 (ap (λ (m : Gathered). m.name) read))

module _ (models : List Gathered) (infos : List ModelInfo) (resolved : AreResolved models) (zip : AllZip (IsModelOf models) models infos) where
  same_number : (k : ℕ) (g : Gathered) (info : ModelInfo) → slice_get models k ≡ Some g → (is : IsModelOf models g info) → is.number ≡ model_no k
  same_number k g info at is = same_Some is.number (model_no k) (sym is.is_number ∙ place_number models resolved.named.distinct k g at)

  info_there : (number : ModelNo) (g : Gathered) → model_at models number.0 ≡ Some g → HasInfo models infos number g
  info_there number g there =
      let place = model_place models number g there in
      let found = value_there (λ info. IsModelOf models g info) (slice_get infos place.0) (zip_there (IsModelOf models) models infos zip place.0 g place.2) in
      let here : HasInfo models infos (model_no place.0) g = record { info = found.0; at = found.1; is = found.2; same = same_number place.0 g found.0 place.2 found.2 } in
      subst (λ (n : ModelNo). HasInfo models infos n g) (sym place.1) here

  info_from : (number : ModelNo) (info : ModelInfo) → info_at infos number ≡ Some info → IsInfoFrom models number info
  info_from number info at = by number.0 refl at
    where
      by : (n : ℕ) → number.0 ≡ n → numbered infos n ≡ Some info → IsInfoFrom models number info
      by zero e here = absurd (none-some info here)
      by (suc k) e here =
          let found = value_there (λ g. IsModelOf models g info) (slice_get models k) (zip_some (IsModelOf models) models infos zip k info here) in
          let from : IsInfoFrom models (model_no k) info = record { model = found.0; there = found.1; is = found.2; same = same_number k found.0 info found.1 found.2 } in
          subst (λ (n : ModelNo). IsInfoFrom models n info) (sym (ap (λ (n : ℕ). let m : ModelNo = record { 0 = n } in m) e)) from

  abbrev Stands : ModelNo → Gathered → ModelInfo → Member → FieldNo → Type 0
  Stands number g info m field = IsSomeAnd (numbered (info.fields ++ info.hidden) field.0) (IsFieldOf (record { models = models; number = number; member = m }) g field)

  field_there : (number : ModelNo) (field : FieldNo) (g : Gathered) (m : Member) → IsMember models (step_at number field) g m → HasFieldInfo models infos number field g m
  field_there number field g m is =
      let parts = member_parts models (step_at number field) g m is in
      let own = info_there number g parts.0 in
      let stands : Stands own.is.number g own.info m field = elim parts.1 [
        | inl named ↦ subst (λ (f : FieldNo). Stands own.is.number g own.info m f) named.1 (own.is.named m named.0)
        | inr condition ↦ subst (λ (f : FieldNo). Stands own.is.number g own.info m f) condition.1 (own.is.hidden m condition.0)
      ] in
      let here = value_there (IsFieldOf (record { models = models; number = number; member = m }) g field) (numbered (own.info.fields ++ own.info.hidden) field.0)
      (subst (λ (n : ModelNo). Stands n g own.info m field) own.same stands) in
      record {
        info = here.0;
        at = ap (λ (o : Option ModelInfo). option_and_then (λ info. numbered (fields_of info) field.0) o) own.at ∙ here.1;
        is = here.2;
      }

  module _ (list : List KeptModel) (are : AreModelled models list) where
    -- as many fields as the program's model has
    field_count : (g : Gathered) (info : ModelInfo) (model : KeptModel) → IsModelOf models g info → IsModelled models g model → length (info.fields ++ info.hidden) ≡ length (members_in model.members.items)
    field_count g info model is kept =
        let both = length-append info.fields info.hidden in
        let named = is.named_count in
        let few = is.hidden_count in
        let front = named_count models g model kept in
        let back = back_count models g model kept in
        let moved = length_permutation (hidden_members g) (hidden_in model.named model.members.items) (hidden_moved models g model kept) in
        omega arith

    field_from : (number : ModelNo) (field : FieldNo) (info : FieldInfo) → field_at infos number field ≡ Some info → IsFieldFrom models number field info
    field_from number field info at =
        option_and_then_some (λ own. numbered (fields_of own) field.0) (info_at infos number) info at (λ own here found. by own here found)
      where
        by : (own : ModelInfo) → info_at infos number ≡ Some own → numbered (fields_of own) field.0 ≡ Some info → IsFieldFrom models number field info
        by own here found =
            let from = info_from number own here in
            let g = from.model in
            let known : IsSome (model_at models number.0) = ap (λ (o : Option Gathered). is_some o) from.there in
            let kept = model_there models list are number.0 known in
            let modelled = value_there (λ g. IsModelled models g kept.0) (model_at models number.0) kept.1 in
            let is : IsModelled models g kept.0 = subst (λ (x : Gathered). IsModelled models x kept.0) (same_Some modelled.0 g (sym modelled.1 ∙ from.there)) modelled.2 in
            let place = numbered_place (fields_of own) field.0 info found in
            let within : place.0 < length (fields_of own) = slice_get_within (fields_of own) place.0 info place.2 in
            let inside : place.0 < length (members_in kept.0.members.items) = let count = field_count g own kept.0 from.is is in omega arith in
            member_at (members_in kept.0.members.items) g kept.0 is from.there place.0 place.1 inside refl
          where
            read : (members : List Member) (k : ℕ) → k < length members → (m : Member) × (slice_get members k ≡ Some m)
            read [] k within = absurd (omega arith)
            read (m ∷ members) zero within = (m, refl)
            read (m ∷ members) (suc k) within = read members k (omega arith)

            member_at : (members : List Member) (g : Gathered) (model : KeptModel) → IsModelled models g model → model_at models number.0 ≡ Some g → (k : ℕ) → field.0 ≡ suc k → k < length members
                → members ≡ members_in model.members.items → IsFieldFrom models number field info
            member_at members g model is there k e within same =
                let m = read members k within in
                let placed : numbered (members_in model.members.items) field.0 ≡ Some m.0 =
                ap (numbered (members_in model.members.items)) e ∙ ap (λ (l : List Member). slice_get l k) (sym same) ∙ m.1 in
                let is_member = is_member_at models g model is (step_at number field) m.0 there placed in
                let stands = field_there number field g m.0 is_member in
                record {
                  model = g;
                  member = m.0;
                  is_member = is_member;
                  is = subst (λ (i : FieldInfo). IsFieldOf (record { models = models; number = number; member = m.0 }) g field i) (same_Some stands.info info (sym stands.at ∙ at)) stands.is;
                }

    native_there : All HasNativeDefaults infos → (number : ModelNo) (field : FieldNo) (info : FieldInfo) → field_at infos number field ≡ Some info → HasNativeDefault info
    native_there native number field info at =
        option_and_then_some (λ own. numbered (fields_of own) field.0) (info_at infos number) info at (λ own here found.
        (let model = numbered_place infos number.0 own here in
        let place = numbered_place (fields_of own) field.0 info found in
        let of_model : HasNativeDefaults own = at_place HasNativeDefaults infos native model.0 own model.2 in
        at_place HasNativeDefault (fields_of own) of_model place.0 info place.2))
      where
        at_place : {X : Type 0} (P : X → Type 0) (xs : List X) → All P xs → (k : ℕ) (x : X) → slice_get xs k ≡ Some x → P x
        at_place {X} P xs all k x at = subst P (get_or_from_slice_get xs k x x at) (all k x (slice_get_within xs k x at))

    -- the registry of models against which nothing stands
    pub registry_of : All HasNativeDefaults infos → IsRegistryOf models infos
    registry_of native = record {
      resolved = resolved;
      model = info_there;
      model_back = info_from;
      field = field_there;
      field_back = field_from;
      native = native_there native;
    }
