-- Where delegated fields come from: the link is a field of the model, and the field is one of the parent's own.
use Rattle.std.proofs.Common.{◌≡◌, ◌⊎◌, ℕ, zero, suc, ◌<◌, inl, inr, Bool, true, false, cond, ◌&&◌, not, is_none, List, [], ◌∷◌, ◌++◌, map, length, Option, Some, None, option_map, refl, sym, ap, subst, ◌∙◌, arith}
use Rattle.std.specs.Prelude.{Contains, filter}
use Rattle.std.proofs.lemmas.List.Elements.{Contains-append_cases, Contains-append_left, Contains-append_right}
use Rattle.ob_definition.specs.declared.definition.Inherits.{Inherits}
use Rattle.ob_definition.specs.Definitions.{is_automatic}
use Rattle.std.specs.Option.{option_map_or}
use Rattle.ob_definition.specs.Gathered.{Declared, Gathered, is_declared, model_of}
use Rattle.ob_definition.specs.Members.{Member, Role, own, delegated, automatic_defs, delegated_by, delegated_member, delegated_through, given_members, link_def}
use Rattle.ob_definition.specs.Members.{links_of, members_of, named, number_named, number_of, own_member, own_members, path_def, path_members, path_name}
use Rattle.ob_registry.proofs.NameOrder.{named_absent, named_found}
use Rattle.ob_registry.proofs.Delegated.{not_true}

-- what a map has was made of something
pub Contains-from_map : {X Y : Type 0} (f : X → Y) (xs : List X) (y : Y) → Contains (map f xs) y → (x : X) × Contains xs x × (f x ≡ y)
Contains-from_map f [] y (k, low, at) = absurd (omega arith)
Contains-from_map f (x ∷ xs) y (zero, low, at) = (x, (0, omega arith, refl), at)
Contains-from_map f (x ∷ xs) y (suc k, low, at) =
    let rest = Contains-from_map f xs y (k, omega arith, at) in
    let place : rest.1.0 < length xs = rest.1.1 in
    (rest.0, (suc rest.1.0, omega arith, rest.1.2), rest.2)

pub Contains-to_map : {X Y : Type 0} (f : X → Y) (xs : List X) (x : X) → Contains xs x → Contains (map f xs) (f x)
Contains-to_map f [] x (k, low, at) = absurd (omega arith)
Contains-to_map f (z ∷ xs) x (zero, low, at) = (0, omega arith, ap f at)
Contains-to_map f (z ∷ xs) x (suc k, low, at) =
    let rest = Contains-to_map f xs x (k, omega arith, at) in
    let place : rest.0 < length (map f xs) = rest.1 in
    (suc rest.0, omega arith, rest.2)

-- what a filter keeps was there, and passes
pub Contains-from_filter : {X : Type 0} (p : X → Bool) (xs : List X) (x : X) → Contains (filter p xs) x → Contains xs x × (p x ≡ true)
Contains-from_filter p [] x (k, low, at) = absurd (omega arith)
Contains-from_filter p (z ∷ xs) x here = by (p z) refl here (λ there. Contains-from_filter p xs x there)
  where
    further : Contains xs x × (p x ≡ true) → Contains (z ∷ xs) x × (p x ≡ true)
    further ((k, low, at), passes) = ((suc k, omega arith, at), passes)

    by : (b : Bool) → p z ≡ b → Contains (cond b (z ∷ filter p xs) (filter p xs)) x → (Contains (filter p xs) x → Contains xs x × (p x ≡ true)) → Contains (z ∷ xs) x × (p x ≡ true)
    by true e (zero, low, at) rest = ((0, omega arith, at), ap p (sym at) ∙ e)
    by true e (suc k, low, at) rest = further (rest (k, omega arith, at))
    by false e there rest = further (rest there)

-- a name that some field has is found
pub named_some : (members : List Member) (m : Member) → Contains members m → (x : Member) × (named members m.def.name ≡ Some x) × (x.def.name ≡ m.def.name)
named_some members m here = by (named members m.def.name) refl
  where
    by : (o : Option Member) → named members m.def.name ≡ o → (x : Member) × (o ≡ Some x) × (x.def.name ≡ m.def.name)
    by None e = absurd (named_absent members m.def.name m e here refl)
    by (Some x) e = (x, refl, (named_found members m.def.name x e).1)

-- where a delegated field comes from
pub record IsFrom (models : List Gathered) (g : Gathered) (i : Inherits) (m : Member) : Type 0 where
  pub parent : Gathered
  pub is_parent : model_of models i.model ≡ Some parent
  pub field : Member
  pub among : Contains (own_members models parent) field
  pub free : is_automatic field.def.name ≡ false
  pub same : delegated_member g.entry i field ≡ m

module _ (models : List Gathered) where
  -- so it has its number
  pub number_named_there : (g : Gathered) (m : Member) → Contains (members_of models g) m → number_named models g m.def.name ≡ Some (number_of models g m.def.name)
  number_named_there g m here =
      let found = named_some (members_of models g) m here in
      ap (option_map (λ x. number_of models g x.def.name)) found.1 ∙ ap (λ (n : List ℕ). Some (number_of models g n)) found.2

  path_own : (g : Gathered) (o : Option (List ℕ)) (m : Member) → Contains (path_members g o) m → m.role ≡ own
  path_own g None m (k, low, at) = absurd (omega arith)
  path_own g (Some parent) m here = by (is_declared g.fields path_name) here
    where
      by : (b : Bool) → Contains (cond b [] (own_member g.entry (path_def parent) ∷ [])) m → m.role ≡ own
      by true (k, low, at) = absurd (omega arith)
      by false (zero, low, at) = ap (λ (x : Member). x.role) (sym at)
      by false (suc k, low, at) = absurd (omega arith)

  -- the fields in a model's own rows are own ones
  pub own_members-own : (g : Gathered) (m : Member) → Contains (own_members models g) m → m.role ≡ own
  own_members-own g m here = elim (Contains-append_cases (given_members g) links m here) [
    | inl given ↦ elim (Contains-append_cases (automatic ++ declared) (path_members g g.parent) m given) [
      | inl some ↦ elim (Contains-append_cases automatic declared m some) [
        | inl there ↦ role (own_member g.entry) (λ def. refl) automatic_defs there
        | inr there ↦ role (λ (f : Declared). own_member f.entry f.def) (λ f. refl) g.fields there
      ]
      | inr path ↦ path_own g g.parent m path
    ]
    | inr link ↦ role (λ (i : Inherits). own_member g.entry (link_def i)) (λ i. refl) (links_of models g) link
  ]
    where
      automatic : List Member
      automatic = map (own_member g.entry) automatic_defs

      declared : List Member
      declared = map (λ (f : Declared). own_member f.entry f.def) g.fields

      links : List Member
      links = map (λ (i : Inherits). own_member g.entry (link_def i)) (links_of models g)

      role : {X : Type 0} (f : X → Member) → ((x : X) → (f x).role ≡ own) → (xs : List X) → Contains (map f xs) m → m.role ≡ own
      role f are xs there = let made = Contains-from_map f xs m there in ap (λ (x : Member). x.role) (sym made.2) ∙ are made.0

  -- the link of each parent is one
  pub link_there : (g : Gathered) (i : Inherits) → Contains (links_of models g) i → Contains (members_of models g) (own_member g.entry (link_def i))
  link_there g i here =
      Contains-append_left (own_members models g) (delegated_by models g (links_of models g)) (own_member g.entry (link_def i))
      (Contains-append_right (given_members g) (map (λ i. own_member g.entry (link_def i)) (links_of models g)) (own_member g.entry (link_def i))
      (Contains-to_map (λ i. own_member g.entry (link_def i)) (links_of models g) i here))

  through_from : (g : Gathered) (i : Inherits) (m : Member) → Contains (delegated_through models g.entry i) m → IsFrom models g i m
  through_from g i m here = by (model_of models i.model) refl here
    where
      kept : Member → Bool
      kept x = not (is_automatic x.def.name)

      by : (o : Option Gathered) → model_of models i.model ≡ o → Contains (option_map_or (λ p. map (delegated_member g.entry i) (filter kept (own_members models p))) o []) m → IsFrom models g i m
      by None e (k, low, at) = absurd (omega arith)
      by (Some p) e there =
          let made = Contains-from_map (delegated_member g.entry i) (filter kept (own_members models p)) m there in
          let passed = Contains-from_filter kept (own_members models p) made.0 made.1 in
          record { parent = p; is_parent = e; field = made.0; among = passed.0; free = not_true (is_automatic made.0.def.name) passed.1; same = made.2 }

  -- a field that a model has by its links comes through one of them
  pub delegated_by-from : (g : Gathered) (links : List Inherits) (m : Member) → Contains (delegated_by models g links) m → (i : Inherits) × Contains links i × IsFrom models g i m
  delegated_by-from g [] m (k, low, at) = absurd (omega arith)
  delegated_by-from g (i ∷ later) m here = by (Contains-append_cases (filter kept (delegated_through models g.entry i)) (delegated_by models g later) m here) (λ there. delegated_by-from g later m there)
    where
      kept : Member → Bool
      kept x = is_none (named (own_members models g) x.def.name) && is_none (named (delegated_by models g later) x.def.name)

      by : Contains (filter kept (delegated_through models g.entry i)) m ⊎ Contains (delegated_by models g later) m
          → (Contains (delegated_by models g later) m → (j : Inherits) × Contains later j × IsFrom models g j m) → (j : Inherits) × Contains (i ∷ later) j × IsFrom models g j m
      by (inl there) rest = (i, (0, omega arith, refl), through_from g i m (Contains-from_filter kept (delegated_through models g.entry i) m there).0)
      by (inr there) rest =
          let found = rest there in
          let place : found.1.0 < length later = found.1.1 in
          (found.0, (suc found.1.0, omega arith, found.1.2), found.2)

  -- so does a delegated field of a model
  pub delegated_from : (g : Gathered) (m : Member) (i : Inherits) → Contains (members_of models g) m → m.role ≡ delegated i → Contains (links_of models g) i × IsFrom models g i m
  delegated_from g m i here role = elim (Contains-append_cases (own_members models g) (delegated_by models g (links_of models g)) m here) [
    | inl mine ↦ absurd (let clash : ◌≡◌ {A = Role} own (delegated i) = sym (own_members-own g m mine) ∙ role in cc)
    | inr there ↦
        (let found = delegated_by-from g (links_of models g) m there in
        let through : delegated found.0 ≡ delegated i = ap (λ (x : Member). x.role) found.2.same ∙ role in
        let same : found.0 ≡ i = cc in
        subst (λ (j : Inherits). Contains (links_of models g) j × IsFrom models g j m) same (found.1, found.2))
  ]

  -- the numbers of the link, and of the field in the parent
  pub number_of_link : (g : Gathered) (i : Inherits) → Contains (links_of models g) i → number_named models g i.link ≡ Some (number_of models g i.link)
  number_of_link g i here = number_named_there g (own_member g.entry (link_def i)) (link_there g i here)

  pub number_of_field : (g : Gathered) (i : Inherits) (m : Member) (from : IsFrom models g i m) → number_named models from.parent m.def.name ≡ Some (number_of models from.parent m.def.name)
  number_of_field g i m from =
      let there = number_named_there from.parent from.field (Contains-append_left (own_members models from.parent) (delegated_by models from.parent (links_of models from.parent)) from.field from.among) in
      subst (λ (n : List ℕ). number_named models from.parent n ≡ Some (number_of models from.parent n)) (ap (λ (x : Member). x.def.name) from.same) there
