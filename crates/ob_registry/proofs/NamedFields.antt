-- The fields of a model as the program has them are those of the definitions, each by its name and at its number.
use Rattle.std.proofs.Common.{◌≡◌, ◌⊎◌, ℕ, zero, suc, ◌+◌, ◌-◌, ◌<◌, ◌≤◌, inl, inr, Bool, true, false, cond, Option, Some, None, option_map, is_some}
use Rattle.std.proofs.Common.{List, [], ◌∷◌, ◌++◌, map, length, get_or, refl, sym, ap, subst, ◌∙◌, arith}
use Rattle.std.specs.Prelude.{Contains, IsPermutation, codes, slice_get}
use Rattle.std.proofs.lemmas.Bool.{cases_lt}
use Rattle.std.proofs.lemmas.List.{get_or-append_right, get_or-drop, get_or-take, get_or_append_left, length-append, length-drop, length-map, length-take-le}
use Rattle.std.proofs.lemmas.List.Sorted.{Contains-permutation, IsPermutation-append_left, IsPermutation-sym, length_permutation}
use Rattle.std.proofs.lemmas.Option.{get_or_from_slice_get, slice_get-get_or, slice_get_within}
use Rattle.ob_base.specs.declared.id.FieldNo.{FieldNo}
use Rattle.ob_definition.specs.Gathered.{DeclaredCheck, Gathered}
use Rattle.ob_definition.specs.Members.{AreInNameOrder, Member, check_member, check_members, count_below, hidden_members, hidden_number, locked_members, members_of, model_at, named, names_of, number_named, number_of}
use Rattle.ob_schema.specs.declared.info.Step.{Step}
use Rattle.ob_registry.specs.declared.model.Model.{Model}
use Rattle.ob_registry.specs.ModelFields.{hidden_in, member_of, members_in, named_in, number_in}
use Rattle.ob_schema.specs.Built.{numbered}
use Rattle.ob_registry.specs.Modelling.{IsModelled}
use Rattle.ob_schema.specs.Strata.{IsMember}
use Rattle.ob_schema.specs.Strata.IsMember.{by_name, by_condition}
use Rattle.ob_registry.proofs.NameOrder.{count_below-permutation, in_order-distinct, named-permutation, named_there, number_at, number_in_order, rank_in_order}

-- what stands at a number
pub numbered_less : {X : Type 0} (xs : List X) (n : ℕ) → 0 < n → slice_get xs (n - 1) ≡ numbered xs n
numbered_less xs zero low = absurd (omega arith)
numbered_less xs (suc i) low = ap (slice_get xs) (let less : suc i - 1 ≡ i = omega arith in less)

-- no check has the name of the condition `locked`
named-locked : (checks : List DeclaredCheck) → named (map check_member checks) (codes "locked") ≡ None
named-locked [] = refl
named-locked (c ∷ checks) = named-locked checks

-- a field at a step is a named one or a condition
pub member_parts : (models : List Gathered) (step : Step) (g : Gathered) (m : Member) → IsMember models step g m
    → (model_at models step.model.0 ≡ Some g)
    × ((Contains (members_of models g) m × (number_of models g m.def.name ≡ step.field)) ⊎ (Contains (hidden_members g) m × (hidden_number models g m.def.name ≡ step.field)))
member_parts models _ _ _ (by_name step g m known there number) = (known, inl (there, number))
member_parts models _ _ _ (by_condition step g m known there number) = (known, inr (there, number))

module _ (models : List Gathered) (g : Gathered) (model : Model) (is : IsModelled models g model) where
  -- all its fields by number, the named ones and the conditions
  abbrev pub fields : List Member
  fields = members_in model.members.items

  abbrev pub front : List Member
  front = named_in model.named model.members.items

  abbrev pub back : List Member
  back = hidden_in model.named model.members.items

  pub front_ordered : AreInNameOrder front
  front_ordered = model.ordered

  pub named_within : model.named ≤ length fields
  named_within = let same = length-map model.members.items member_of in let low = model.within in omega arith

  pub front_count : length front ≡ model.named
  front_count = length-take-le model.named fields named_within

  -- as many fields have names
  pub named_count : length (members_of models g) ≡ model.named
  named_count = sym (length_permutation (members_of models g) front is.named) ∙ front_count

  pub back_count : length fields ≡ model.named + length back
  back_count = let size = length-drop model.named fields in let low = named_within in omega arith

  -- a name has the same field
  pub named_modelled : (name : List ℕ) → named front name ≡ named (members_of models g) name
  named_modelled name = named-permutation (members_of models g) front is.named (in_order-distinct front front_ordered) name

  -- and the same number
  pub number_modelled : (name : List ℕ) → number_in front name ≡ number_named models g name
  unfolding number_of
  number_modelled name =
      number_in_order front front_ordered name
      ∙ ap (λ (o : Option Member). option_map (λ m. number_at (count_below (names_of front) m.def.name)) o) (named_modelled name)
      ∙ by (named (members_of models g) name)
    where
      by : (o : Option Member) → option_map (λ m. number_at (count_below (names_of front) m.def.name)) o ≡ option_map (λ m. number_of models g m.def.name) o
      by None = refl
      by (Some m) = ap (λ (n : ℕ). Some (number_at n)) (sym (count_below-permutation (members_of models g) front is.named m.def.name))

  -- a named field stands at its number
  pub front_number : (m : Member) (here : Contains front m) → (number_of models g m.def.name).0 ≡ suc here.0
  unfolding number_of
  front_number m here = ap suc (count_below-permutation (members_of models g) front is.named m.def.name ∙ rank_in_order front front_ordered m here)

  pub front_read : (m : Member) (here : Contains front m) → numbered fields (suc here.0) ≡ Some m
  front_read m (k, low, at) =
      let within : k < model.named = let size = front_count in omega arith in
      let inside : k < length fields = let size = named_within in omega arith in
      slice_get-get_or fields k m inside ∙ ap (λ (x : Member). Some x) (sym (get_or-take model.named fields k m within) ∙ at)

  pub back_read : (m : Member) (here : Contains back m) → numbered fields (suc (model.named + here.0)) ≡ Some m
  back_read m (k, low, at) =
      let inside : model.named + k < length fields = let size = back_count in omega arith in
      slice_get-get_or fields (model.named + k) m inside ∙ ap (λ (x : Member). Some x) (sym (get_or-drop model.named fields k m) ∙ at)

  -- and so does a condition
  check_number : (m : Member) (here : Contains is.hidden.checks m) → (hidden_number models g m.def.name).0 ≡ suc (model.named + here.0)
  unfolding hidden_number
  check_number m here =
      let checks = is.hidden.checks in
      let among = named-permutation (check_members g) checks is.hidden.same (in_order-distinct checks is.hidden.ordered) m.def.name in
      let found : is_some (named (check_members g) m.def.name) ≡ true = ap is_some (sym among ∙ named_there checks (in_order-distinct checks is.hidden.ordered) m here) in
      let rank : count_below (names_of (check_members g)) m.def.name ≡ here.0 =
      count_below-permutation (check_members g) checks is.hidden.same m.def.name ∙ rank_in_order checks is.hidden.ordered m here in
      ap (λ (b : Bool). suc (length (members_of models g) + cond b (count_below (names_of (check_members g)) m.def.name) (length g.checks))) found
      ∙ ap (λ (n : ℕ). suc (length (members_of models g) + n)) rank ∙ ap (λ (n : ℕ). suc (n + here.0)) named_count

  locked_number : (m : Member) → Contains (locked_members g g.locked) m → (hidden_number models g m.def.name).0 ≡ suc (model.named + length is.hidden.checks)
  unfolding hidden_number
  locked_number m here =
      let free : is_some (named (check_members g) m.def.name) ≡ false = ap (λ (n : List ℕ). is_some (named (check_members g) n)) (locked_name g.locked here) ∙ ap is_some (named-locked g.checks) in
      let size : length g.checks ≡ length is.hidden.checks = sym (length-map g.checks check_member) ∙ sym (length_permutation (check_members g) is.hidden.checks is.hidden.same) in
      ap (λ (b : Bool). suc (length (members_of models g) + cond b (count_below (names_of (check_members g)) m.def.name) (length g.checks))) free
      ∙ ap (λ (n : ℕ). suc (length (members_of models g) + n)) size ∙ ap (λ (n : ℕ). suc (n + length is.hidden.checks)) named_count
    where
      locked_name : (o : Option (List ℕ)) → Contains (locked_members g o) m → m.def.name ≡ codes "locked"
      locked_name None (k, low, at) = absurd (omega arith)
      locked_name (Some text) (zero, low, at) = ap (λ (x : Member). x.def.name) (sym at)
      locked_name (Some text) (suc k, low, at) = absurd (omega arith)

  pub back_number : (m : Member) (here : Contains back m) → (hidden_number models g m.def.name).0 ≡ suc (model.named + here.0)
  back_number m (k, low, at) = elim (cases_lt k (length checks)) [
    | inl lt ↦ check_number m (k, lt, sym (get_or_append_left checks locked m k lt) ∙ moved)
    | inr le ↦
        (let here : Contains locked m = (k - length checks, (let few = locked_few g.locked in let size = sized in omega arith), sym (get_or-append_right checks locked (length checks) k m refl le) ∙ moved) in
        let last : length checks ≡ k = let few = locked_few g.locked in let size = sized in omega arith in
        locked_number m here ∙ ap (λ (n : ℕ). suc (model.named + n)) last)
  ]
    where
      checks : List Member
      checks = is.hidden.checks

      locked : List Member
      locked = locked_members g g.locked

      locked_few : (o : Option (List ℕ)) → length (locked_members g o) ≤ 1
      locked_few None = omega arith
      locked_few (Some text) = omega arith

      sized : length back ≡ length checks + length locked
      sized = ap length is.hidden.all ∙ length-append checks locked

      moved : get_or (checks ++ locked) k m ≡ m
      moved = ap (λ (l : List Member). get_or l k m) (sym is.hidden.all) ∙ at

  -- the conditions are those of the definitions
  pub hidden_moved : IsPermutation (hidden_members g) back
  hidden_moved =
      subst (λ (l : List Member). IsPermutation (hidden_members g) l) (sym is.hidden.all)
      (IsPermutation-append_left (locked_members g g.locked) (check_members g) is.hidden.checks is.hidden.same)

  -- ---- each field stands at its number, and what stands at a number is a field

  pub member_named : (m : Member) → Contains (members_of models g) m → numbered fields (number_of models g m.def.name).0 ≡ Some m
  member_named m there =
      let here = Contains-permutation (members_of models g) front m is.named there in
      ap (numbered fields) (front_number m here) ∙ front_read m here

  pub member_hidden : (m : Member) → Contains (hidden_members g) m → numbered fields (hidden_number models g m.def.name).0 ≡ Some m
  member_hidden m there =
      let here = Contains-permutation (hidden_members g) back m hidden_moved there in
      ap (numbered fields) (back_number m here) ∙ back_read m here

  pub member_at : (n : ℕ) (m : Member) → numbered fields n ≡ Some m
      → (Contains (members_of models g) m × ((number_of models g m.def.name).0 ≡ n)) ⊎ (Contains (hidden_members g) m × ((hidden_number models g m.def.name).0 ≡ n))
  member_at zero m at = absurd (let e : ◌≡◌ {A = Option Member} None (Some m) = at in cc)
  member_at (suc i) m at = elim (cases_lt i model.named) [
    | inl lt ↦
        (let here : Contains front m = (i, (let size = front_count in omega arith), get_or-take model.named fields i m lt ∙ read) in
        inl (Contains-permutation front (members_of models g) m (IsPermutation-sym (members_of models g) front is.named) here, front_number m here))
    | inr le ↦
        (let place : model.named + (i - model.named) ≡ i = omega arith in
        let here : Contains back m =
        (i - model.named, (let size = back_count in let within = inside in omega arith), get_or-drop model.named fields (i - model.named) m ∙ ap (λ (k : ℕ). get_or fields k m) place ∙ read) in
        inr (Contains-permutation back (hidden_members g) m (IsPermutation-sym (hidden_members g) back hidden_moved) here, back_number m here ∙ ap suc place))
  ]
    where
      inside : i < length fields
      inside = slice_get_within fields i m at

      read : get_or fields i m ≡ m
      read = get_or_from_slice_get fields i m m at

  abbrev number_is : ℕ → FieldNo
  number_is n = record { 0 = n }

  -- what stands at the number of a step into the model is the step's field
  pub is_member_at : (step : Step) (m : Member) → model_at models step.model.0 ≡ Some g → numbered fields step.field.0 ≡ Some m → IsMember models step g m
  is_member_at step m known at = elim (member_at step.field.0 m at) [
    | inl there ↦ by_name step g m known there.0 (ap number_is there.1)
    | inr there ↦ by_condition step g m known there.0 (ap number_is there.1)
  ]

  pub member_of_step : (step : Step) (m : Member) → IsMember models step g m → numbered fields step.field.0 ≡ Some m
  member_of_step step m there = elim (member_parts models step g m there).1 [
    | inl named ↦ ap (λ (f : FieldNo). numbered fields f.0) (sym named.1) ∙ member_named m named.0
    | inr hidden ↦ ap (λ (f : FieldNo). numbered fields f.0) (sym hidden.1) ∙ member_hidden m hidden.0
  ]
