-- The names of a model of the registry and of its fields are right; the fields that every model has, the path in a tree and the conditions are there.
use Rattle.std.proofs.Common.{◌≡◌, ◌≢◌, ℕ, suc, ◌+◌, ◌<◌, ◌≤◌, Bool, true, false, cond, ltb, not, is_some, Option, Some, None, option_map, List, [], ◌∷◌, ◌++◌, length}
use Rattle.std.proofs.Common.{length-append, get_or, map, inl, inr, refl, sym, ap, subst, ◌∙◌, arith}
use Rattle.std.specs.Prelude.{All, Any, Contains, codes, option_and_then, slice_get}
use Rattle.std.specs.Cmp.Lexicographic.{slice_cmp}
use Rattle.std.specs.List.{AllPairs, AllZip, position_or_len}
use Rattle.std.specs.Ordering.{nat_cmp}
use Rattle.std.specs.Str.{bytes_eq}
use Rattle.std.specs.declared.cmp.Ordering.TheVariants.{Less}
use Rattle.std.proofs.lemmas.List.{get_or-map, length-map}
use Rattle.std.proofs.lemmas.List.Elements.{All-contains, All-contains_itself, Contains-append_left, Contains-append_right}
use Rattle.std.proofs.lemmas.List.Folds.{Any-from_list_any}
use Rattle.std.proofs.lemmas.Option.{get_or_from_slice_get, same_Some, slice_get-get_or, slice_get_within}
use Rattle.std.proofs.lemmas.Slice.Eq.{bytes_eq-Decides}
use Rattle.ob_base.specs.Limits.{max_checks, max_name_bytes}
use Rattle.ob_base.specs.declared.id.FieldNo.{FieldNo}
use Rattle.ob_base.specs.declared.id.ModelNo.{ModelNo}
use Rattle.ob_definition.specs.declared.definition.FieldDef.{FieldDef}
use Rattle.ob_definition.specs.declared.fault.SchemaFault.TheVariants as fault
use Rattle.ob_definition.specs.declared.field_type.FieldType.TheVariants as type
use Rattle.ob_definition.specs.Definitions.{plain_field}
use Rattle.ob_definition.specs.Gathered.{Declared, Gathered, is_declared}
use Rattle.ob_definition.specs.Making.{IsPathFault}
use Rattle.ob_definition.specs.Members.{Member, automatic_defs, check_member, check_members, count_below, given_members, hidden_members, hidden_number, is_own_computed, locked_members}
use Rattle.ob_definition.specs.Members.{members_of, model_at, model_number, named, names_of}
use Rattle.ob_definition.specs.Members.{number_of, own_member, own_members, path_def, path_members, path_name}
use Rattle.ob_definition.specs.Rooms.{spot_at}
use Rattle.ob_definition.proofs.CallerLemmas.{zip_length}
use Rattle.ob_schema.specs.declared.info.FieldInfo.{FieldInfo}
use Rattle.ob_schema.specs.declared.info.ModelInfo.{ModelInfo}
use Rattle.ob_schema.specs.Built.{IsFieldOf, IsModelOf, numbered}
use Rattle.ob_schema.specs.Models.{AreInOrder, IsCondition, field_at, fields_of, model_at as info_at, model_named}
use Rattle.ob_schema.specs.Paths.{step_at}
use Rattle.ob_registry.specs.RegistryOf.{HasFieldInfo, IsInfoFrom, IsRegistryOf}
use Rattle.ob_schema.specs.Strata.IsMember.{by_name}
use Rattle.ob_registry.proofs.AllSteps.{element_at}
use Rattle.ob_registry.proofs.Delegated.{hidden_computed, own_among}
use Rattle.ob_registry.proofs.FieldsRight.{computed_info}
use Rattle.ob_registry.proofs.MadeFields.{slice_get-front}
use Rattle.ob_registry.proofs.UnkeptFields.{IsUnkept, hidden_unkept, other_name}
use Rattle.ob_registry.proofs.NamedFields.{member_parts}
use Rattle.ob_registry.proofs.NumbersRise.{field_no, hidden_high, named_place, place_rank, rises}
use Rattle.ob_registry.proofs.RegistryPlaces.{model_place}
use Rattle.ob_registry.proofs.Sourced.{short_name}
use Rattle.ob_schema.proofs.CallerLemmas.{contains-mapped}

-- ---- places

-- the second of two lists stands behind the first
pub slice_get-behind : {X : Type 0} (xs ys : List X) (k : ℕ) (x : X) → slice_get ys k ≡ Some x → slice_get (xs ++ ys) (length xs + k) ≡ Some x
slice_get-behind [] ys k x at = let e : k ≡ 0 + k = omega arith in subst (λ (n : ℕ). slice_get ys n ≡ Some x) e at
slice_get-behind (y ∷ xs) ys k x at =
    let e : suc (length xs + k) ≡ length (y ∷ xs) + k = omega arith in
    subst (λ (n : ℕ). slice_get (y ∷ xs ++ ys) n ≡ Some x) e (slice_get-behind xs ys k x at)

-- models of one name have one place in both lists
places_alike : (all : List Gathered) (name : List ℕ) (models : List Gathered) (infos : List ModelInfo) → AllZip (IsModelOf all) models infos
    → position_or_len (λ (m : Gathered). bytes_eq m.name name) models ≡ position_or_len (λ (m : ModelInfo). bytes_eq m.name name) infos
places_alike all name [] [] zip = refl
places_alike all name [] (i ∷ infos) zip = absurd zip
places_alike all name (m ∷ models) [] zip = absurd zip
places_alike all name (m ∷ models) (i ∷ infos) zip =
    ap (λ (n : List ℕ). cond (not (bytes_eq n name)) (1 + position_or_len (λ (m : Gathered). bytes_eq m.name name) models) 0) (sym zip.0.name)
    ∙ ap (λ (k : ℕ). cond (not (bytes_eq i.name name)) (1 + k) 0) (places_alike all name models infos zip.1)

-- the number of a place
abbrev model_no_at : Option ℕ → Option ModelNo
model_no_at o = option_map (λ i. let n : ModelNo = record { 0 = suc i } in n) o

-- so that a name has one number in both
pub numbers_alike : (models : List Gathered) (infos : List ModelInfo) → AllZip (IsModelOf models) models infos → (name : List ℕ) → model_number models name ≡ model_named infos name
numbers_alike models infos zip name =
    let there = position_or_len (λ (m : ModelInfo). bytes_eq m.name name) infos in
    ap (λ (k : ℕ). model_no_at (cond (ltb k (length models)) (Some k) None)) (places_alike models name models infos zip)
    ∙ ap (λ (size : ℕ). model_no_at (cond (ltb there size) (Some there) None)) (sym (zip_length (IsModelOf models) models infos zip))

module _ (models : List Gathered) (infos : List ModelInfo) (registry : IsRegistryOf models infos) (zip : AllZip (IsModelOf models) models infos) where
  module _ (number : ModelNo) (info : ModelInfo) (at : info_at infos number ≡ Some info) where
    -- the model of which it is made
    pub from : IsInfoFrom models number info
    from = registry.model_back number info at

    abbrev g : Gathered
    g = from.model

    abbrev there : model_at models number.0 ≡ Some g
    there = from.there

    abbrev is : IsModelOf models g info
    is = from.is

    abbrev members : List Member
    members = members_of models g

    -- the name is its own
    pub alone : model_named infos info.name ≡ Some number
    alone =
        ap (model_named infos) is.name ∙ sym (numbers_alike models infos zip g.name) ∙ is.is_number
        ∙ ap (λ (n : ModelNo). Some n) from.same

    -- ---- limits

    -- its name is short
    pub name_short : length info.name ≤ max_name_bytes
    name_short =
        let place = model_place models number g there in
        let P : Gathered → Type 0 = λ h. length h.name ≤ max_name_bytes in
        let short : P g = subst P (get_or_from_slice_get models place.0 g g place.2) (registry.resolved.short_names place.0 g (slice_get_within models place.0 g place.2)) in
        subst (λ (name : List ℕ). length name ≤ max_name_bytes) (sym is.name) short

    -- it has few conditions
    pub few_hidden : length info.hidden ≤ suc max_checks
    few_hidden =
        let place = model_place models number g there in
        let P : Gathered → Type 0 = λ h. length h.checks ≤ max_checks in
        let checks : length g.checks ≤ max_checks = subst P (get_or_from_slice_get models place.0 g g place.2) (registry.resolved.few_checks place.0 g (slice_get_within models place.0 g place.2)) in
        let all : length (hidden_members g) ≡ length (check_members g) + length (locked_members g g.locked) = length-append (check_members g) (locked_members g g.locked) in
        let same : length (check_members g) ≡ length g.checks = length-map g.checks check_member in
        let one = last g.locked in
        let count = is.hidden_count in
        omega arith
      where
        last : (o : Option (List ℕ)) → length (locked_members g o) ≤ 1
        last None = omega arith
        last (Some text) = omega arith

    -- ---- named fields by place

    -- a field of the list is the field of its number
    pub field_read : (k : ℕ) (field : FieldInfo) → slice_get (fields_of info) k ≡ Some field → field_at infos number (field_no k) ≡ Some field
    field_read k field e = ap (λ (o : Option ModelInfo). option_and_then (λ own. numbered (fields_of own) (suc k)) o) at ∙ e

    -- the member that a named field is made of
    record IsNamedAt (k : ℕ) (field : FieldInfo) : Type 0 where
      member : Member
      here : Contains members member
      place : number_of models g member.def.name ≡ field_no k
      name : field.name ≡ member.def.name

    named_at : (k : ℕ) (field : FieldInfo) → slice_get info.fields k ≡ Some field → IsNamedAt k field
    named_at k field e =
        let low : k < length info.fields = slice_get_within info.fields k field e in
        let found = registry.field_back number (field_no k) field (field_read k field (slice_get-front info.fields info.hidden k low ∙ e)) in
        let parts = member_parts models (step_at number (field_no k)) found.model found.member found.is_member in
        let same : found.model ≡ g = same_Some found.model g (sym parts.0 ∙ there) in
        elim parts.1 [
          | inl named ↦ record {
            member = found.member;
            here = subst (λ (h : Gathered). Contains (members_of models h) found.member) same named.0;
            place = ap (λ (h : Gathered). number_of models h found.member.def.name) (sym same) ∙ named.1;
            name = found.is.name;
          }
          | inr condition ↦
              (let behind = hidden_high models found.model found.member.def.name k condition.1 in
              let size : length (members_of models found.model) ≡ length members = ap (λ (h : Gathered). length (members_of models h)) same in
              let count = is.named_count in
              absurd (omega arith))
        ]

    -- its fields' names are short
    pub short : All (λ field. length field.name ≤ max_name_bytes) info.fields
    short k d within =
        let own = named_at k (get_or info.fields k d) (slice_get-get_or info.fields k d within) in
        subst (λ (l : List ℕ). length l ≤ max_name_bytes) (sym own.name) (short_name models registry.resolved number g there own.member own.here)

    -- and in byte order
    pub ordered : AreInOrder (map (λ field. field.name) info.fields)
    ordered i j d lt within =
        let name : FieldInfo → List ℕ = λ field. field.name in
        let size : length (map name info.fields) ≡ length info.fields = length-map info.fields name in
        let high : j < length info.fields = omega arith in
        let low : i < length info.fields = omega arith in
        let a = element_at info.fields i low in
        let b = element_at info.fields j high in
        let first = named_at i a.0 a.1 in
        let second = named_at j b.0 b.1 in
        let one : get_or (map name info.fields) i d ≡ first.member.def.name = get_or-map name info.fields i a.0 d low ∙ ap name (get_or_from_slice_get info.fields i a.0 a.0 a.1) ∙ first.name in
        let two : get_or (map name info.fields) j d ≡ second.member.def.name = get_or-map name info.fields j b.0 d high ∙ ap name (get_or_from_slice_get info.fields j b.0 b.0 b.1) ∙ second.name in
        let below : count_below (names_of members) first.member.def.name ≡ i = place_rank models g first.member.def.name i first.place in
        let above : count_below (names_of members) second.member.def.name ≡ j = place_rank models g second.member.def.name j second.place in
        let less : slice_cmp nat_cmp first.member.def.name second.member.def.name ≡ Less = rises (names_of members) first.member.def.name second.member.def.name (omega arith) in
        ap (λ (l : List ℕ). slice_cmp nat_cmp l (get_or (map name info.fields) j d)) one ∙ ap (λ (l : List ℕ). slice_cmp nat_cmp first.member.def.name l) two ∙ less

    -- a field of the model is there
    given_there : (m : Member) → Contains (given_members g) m → (P : FieldInfo → Type 0)
        → ((field : FieldNo) (own : FieldInfo) → IsFieldOf (record { models = models; number = number; member = m }) g field own → P own) → Any P info.fields
    given_there m given P holds =
        let here : Contains members m = own_among models g m (Contains-append_left (given_members g) _ m given) in
        let place = named_place models g m here in
        let own = registry.field number (field_no place.0) g m (by_name (step_at number (field_no place.0)) g m there here place.1) in
        let count = is.named_count in
        let low : place.0 < length info.fields = omega (arith, place.2) in
        let found : slice_get (fields_of info) place.0 ≡ Some own.info = sym (ap (λ (o : Option ModelInfo). option_and_then (λ own. numbered (fields_of own) (suc place.0)) o) at) ∙ own.at in
        let front : slice_get info.fields place.0 ≡ Some own.info = sym (slice_get-front info.fields info.hidden place.0 low) ∙ found in
        (place.0, own.info, low, get_or_from_slice_get info.fields place.0 own.info own.info front, holds (field_no place.0) own.info own.is)

    -- the fields that every model has are there
    pub automatic : All (λ own. Any (λ field. (field.name ≡ own.name) × (field.field_type ≡ own.field_type)) info.fields) automatic_defs
    automatic k d within =
        let def : FieldDef = get_or automatic_defs k d in
        let m : Member = own_member g.entry def in
        let among : Contains (map (own_member g.entry) automatic_defs) m = contains-mapped (own_member g.entry) automatic_defs def (All-contains_itself automatic_defs k d within) in
        given_there m (Contains-append_left (map (own_member g.entry) automatic_defs) _ m among) (λ field. (field.name ≡ def.name) × (field.field_type ≡ def.field_type)) (λ field own of. (of.name, of.field_type))

    -- ---- the row's id

    -- a field that every model has
    automatic_own : (def : FieldDef) → Contains automatic_defs def → Contains (own_members models g) (own_member g.entry def)
    automatic_own def here =
        let m : Member = own_member g.entry def in
        let among : Contains (map (own_member g.entry) automatic_defs) m = contains-mapped (own_member g.entry) automatic_defs def here in
        Contains-append_left (given_members g) _ m (Contains-append_left (map (own_member g.entry) automatic_defs) _ m among)

    abbrev pub id_member : Member
    id_member = own_member g.entry (plain_field (codes "id") type.Integer)

    pub id_own : Contains (own_members models g) id_member
    id_own = automatic_own (plain_field (codes "id") type.Integer) (2, omega arith, refl)

    pub id_info : HasFieldInfo models infos number (number_of models g (codes "id")) g id_member
    id_info =
        registry.field number (number_of models g (codes "id")) g id_member
        (by_name (step_at number (number_of models g (codes "id"))) g id_member there (own_among models g id_member id_own) refl)

    -- ---- the path in a tree

    -- no declared field has the name of the path
    path_free : is_some g.parent ≡ true → is_declared g.fields path_name ≡ false
    path_free given = by (is_declared g.fields path_name) refl
      where
        by : (b : Bool) → is_declared g.fields path_name ≡ b → b ≡ false
        by false e = refl
        by true e =
            let found = Any-from_list_any (λ (f : Declared). bytes_eq f.def.name path_name) g.fields e in
            let named : found.1.def.name ≡ path_name = (bytes_eq-Decides found.1.def.name path_name).0 found.4 in
            let why = fault.Twice (spot_at found.1.entry path_name) in
            let place = model_place models number g there in
            let takes : IsPathFault g why = (given, (found.0, found.1, found.2, found.3, (named, refl))) in
            absurd (registry.resolved.made why (place.0, g, slice_get_within models place.0 g place.2, get_or_from_slice_get models place.0 g g place.2, inl takes))

    -- a tree has its path
    module _ (parent : List ℕ) (is_parent : g.parent ≡ Some parent) where
      abbrev pub path_member : Member
      path_member = own_member g.entry (path_def parent)

      path_given : Contains (given_members g) path_member
      path_given =
          let free = path_free (ap (λ (o : Option (List ℕ)). is_some o) is_parent) in
          let one : path_members g g.parent ≡ path_member ∷ [] = ap (path_members g) is_parent ∙ ap (λ (b : Bool). cond b [] (path_member ∷ [])) free in
          let last : Contains (path_members g g.parent) path_member = subst (λ (l : List Member). Contains l path_member) (sym one) (0, omega arith, refl) in
          let automatic = map (own_member g.entry) automatic_defs in
          let declared = map (λ (f : Declared). own_member f.entry f.def) g.fields in
          Contains-append_right automatic _ path_member (Contains-append_right declared (path_members g g.parent) path_member last)

      pub path_own : Contains (own_members models g) path_member
      path_own = Contains-append_left (given_members g) _ path_member path_given

      -- among the named fields
      pub path_low : (number_of models g path_name).0 ≤ length info.fields
      path_low =
          let place = named_place models g path_member (own_among models g path_member path_own) in
          let count = is.named_count in
          let low : suc place.0 ≤ length info.fields = omega (arith, place.2) in
          subst (λ (n : FieldNo). n.0 ≤ length info.fields) (sym place.1) low

      pub path_info : HasFieldInfo models infos number (number_of models g path_name) g path_member
      path_info =
          registry.field number (number_of models g path_name) g path_member
          (by_name (step_at number (number_of models g path_name)) g path_member there (own_among models g path_member path_own) refl)

    -- ---- conditions

    -- the condition that a hidden field is made of
    record IsHiddenAt (k : ℕ) (field : FieldInfo) : Type 0 where
      member : Member
      here : Contains (hidden_members g) member
      place : hidden_number models g member.def.name ≡ field_no (length info.fields + k)
      own : IsFieldOf (record { models = models; number = number; member = member }) g (field_no (length info.fields + k)) field

    hidden_at : (k : ℕ) (field : FieldInfo) → slice_get info.hidden k ≡ Some field → IsHiddenAt k field
    hidden_at k field e =
        let n = length info.fields + k in
        let found = registry.field_back number (field_no n) field (field_read n field (slice_get-behind info.fields info.hidden k field e)) in
        let m = found.member in
        let parts = member_parts models (step_at number (field_no n)) found.model m found.is_member in
        let same : found.model ≡ g = same_Some found.model g (sym parts.0 ∙ there) in
        elim parts.1 as (λ _. IsHiddenAt k field) [
          | inl named ↦
              (let place = named_place models found.model m named.0 in
              let both : field_no place.0 ≡ field_no n = sym place.1 ∙ named.1 in
              let high : suc place.0 ≡ suc n = ap (λ (f : FieldNo). f.0) both in
              let size : length (members_of models found.model) ≡ length members = ap (λ (h : Gathered). length (members_of models h)) same in
              let low : place.0 < length (members_of models found.model) = place.2 in
              let count = is.named_count in
              absurd (omega arith))
          | inr condition ↦ record {
            member = m;
            here = subst (λ (h : Gathered). Contains (hidden_members h) m) same condition.0;
            place = ap (λ (h : Gathered). hidden_number models h m.def.name) (sym same) ∙ condition.1;
            own = subst (λ (h : Gathered). IsFieldOf (record { models = models; number = number; member = m }) h (field_no n) field) same found.is;
          }
        ]

    -- each condition is one
    pub conditions : All IsCondition info.hidden
    conditions k d within =
        let field = get_or info.hidden k d in
        let at : IsHiddenAt k field = hidden_at k field (slice_get-get_or info.hidden k d within) in
        let m = at.member in
        let unkept = All-contains IsUnkept (hidden_members g) m (hidden_unkept g) at.here in
        let computed : is_own_computed m ≡ true = (hidden_computed g m at.here).1 in
        record {
          named = elim unkept.3 [ inl check ↦ inl (check.0, at.own.name ∙ check.1) | inr locked ↦ inr (at.own.name ∙ locked) ];
          boolean = at.own.field_type ∙ unkept.1;
          computed = computed_info (record { models = models; number = number; member = m }) g (field_no (length info.fields + k)) field.origin computed (other_name m.def.name unkept.0) at.own.origin;
          unkept = at.own.store ∙ unkept.2;
        }

    -- no two have one name
    pub conditions_apart : AllPairs (λ a b. a.name ≢ b.name) info.hidden
    conditions_apart i j d lt within same =
        let low : i < length info.hidden = omega arith in
        let a = hidden_at i (get_or info.hidden i d) (slice_get-get_or info.hidden i d low) in
        let b = hidden_at j (get_or info.hidden j d) (slice_get-get_or info.hidden j d within) in
        let names : a.member.def.name ≡ b.member.def.name = sym a.own.name ∙ same ∙ b.own.name in
        let two : field_no (length info.fields + i) ≡ field_no (length info.fields + j) = sym a.place ∙ ap (hidden_number models g) names ∙ b.place in
        let numbers : suc (length info.fields + i) ≡ suc (length info.fields + j) = ap (λ (f : FieldNo). f.0) two in
        omega arith
