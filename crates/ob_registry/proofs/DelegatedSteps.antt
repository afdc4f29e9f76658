-- A delegated field of a model stands behind a link of it, as the parent's field of its name.
use Rattle.std.proofs.Common.{◌≡◌, inl, inr, ℕ, suc, List, [], ◌∷◌, ◌++◌, map, Bool, true, false, cond, not, Option, Some, None, option_map, refl, sym, ap, subst, ◌∙◌}
use Rattle.std.specs.Prelude.{◌&&◌, Contains, is_none, option_and_then}
use Rattle.std.specs.List.{filter}
use Rattle.std.specs.Option.{option_map_or}
use Rattle.std.specs.Str.{bytes_eq}
use Rattle.std.proofs.lemmas.List.Elements.{Contains-append_cases, Contains-append_left, Contains-append_right}
use Rattle.ob_base.specs.declared.id.FieldNo.{FieldNo}
use Rattle.ob_base.specs.declared.id.ModelNo.{ModelNo}
use Rattle.ob_definition.specs.declared.definition.Inherits.{Inherits}
use Rattle.ob_definition.specs.Definitions.{is_automatic}
use Rattle.ob_definition.specs.Gathered.{Declared, Gathered, is_declared, model_of}
use Rattle.ob_definition.specs.Members.{Member, Role, own, delegated, automatic_defs, delegated_by, delegated_member, delegated_through, given_members, link_def}
use Rattle.ob_definition.specs.Members.{links_of, members_of, model_number, named, number_named, number_of, own_member, own_members, path_def, path_members, path_name}
use Rattle.ob_schema.specs.declared.info.Delegation.{Delegation}
use Rattle.ob_registry.specs.Modelling.{delegation_of}
use Rattle.ob_schema.specs.Paths.{step_at, steps_behind, steps_through}
use Rattle.ob_schema.proofs.CallerLemmas.{contains-cases, contains-filter, contains-first, contains-later, contains-map, contains-mapped, contains-none, found-placed, named-among, named-is, named-one}

-- the fields in a model's own rows aren't delegated
own_is_not : (i : Inherits) → ◌≡◌ {A = Role} own (delegated i) → ⊥
own_is_not i e = cc

module _ (models : List Gathered) where
  path_is_own : (g : Gathered) (parent : Option (List ℕ)) (m : Member) (i : Inherits) → Contains (path_members g parent) m → m.role ≡ delegated i → ⊥
  path_is_own g None m i c e = contains-none m c
  path_is_own g (Some parent) m i c e = by (is_declared g.fields path_name) c
    where
      by : (b : Bool) → Contains (cond b [] (own_member g.entry (path_def parent) ∷ [])) m → ⊥
      by true c = contains-none m c
      by false c = elim (contains-cases (own_member g.entry (path_def parent)) [] m c) [
        | inl is ↦ own_is_not i (ap (λ (x : Member). x.role) is ∙ e)
        | inr none ↦ contains-none m none
      ]

  own_is_own : (g : Gathered) (m : Member) (i : Inherits) → Contains (own_members models g) m → m.role ≡ delegated i → ⊥
  own_is_own g m i c e = elim (Contains-append_cases (given_members g) (map (λ j. own_member g.entry (link_def j)) (links_of models g)) m c) [
    | inl given ↦ elim (Contains-append_cases (map (own_member g.entry) automatic_defs) (map (λ (f : Declared). own_member f.entry f.def) g.fields ++ path_members g g.parent) m given) [
      | inl auto ↦ (let w = contains-map (own_member g.entry) automatic_defs m auto in own_is_not i (ap (λ (x : Member). x.role) w.2 ∙ e))
      | inr rest ↦ elim (Contains-append_cases (map (λ (f : Declared). own_member f.entry f.def) g.fields) (path_members g g.parent) m rest) [
        | inl declared ↦ (let w = contains-map (λ (f : Declared). own_member f.entry f.def) g.fields m declared in own_is_not i (ap (λ (x : Member). x.role) w.2 ∙ e))
        | inr path ↦ path_is_own g g.parent m i path e
      ]
    ]
    | inr link ↦ (let w = contains-map (λ (j : Inherits). own_member g.entry (link_def j)) (links_of models g) m link in own_is_not i (ap (λ (x : Member). x.role) w.2 ∙ e))
  ]

  -- through one link
  through_link : (n : ℕ) (j i : Inherits) (m : Member) → Contains (delegated_through models n j) m → m.role ≡ delegated i
      → (j ≡ i) × (parent : Gathered) × (model_of models j.model ≡ Some parent) × (field : Member) × Contains (own_members models parent) field × (m.def.name ≡ field.def.name)
  through_link n j i m c e = by (model_of models j.model) refl c
    where
      fields : Gathered → List Member
      fields p = map (delegated_member n j) (filter (λ (x : Member). not (is_automatic x.def.name)) (own_members models p))

      by : (o : Option Gathered) → model_of models j.model ≡ o → Contains (option_map_or fields o []) m
          → (j ≡ i) × (parent : Gathered) × (model_of models j.model ≡ Some parent) × (field : Member) × Contains (own_members models parent) field × (m.def.name ≡ field.def.name)
      by None at c = absurd (contains-none m c)
      by (Some parent) at c =
          let w = contains-map (delegated_member n j) (filter (λ (x : Member). not (is_automatic x.def.name)) (own_members models parent)) m c in
          let same : ◌≡◌ {A = Role} (delegated j) (delegated i) = ap (λ (x : Member). x.role) w.2 ∙ e in
          (cc, parent, at, w.0, contains-filter (λ (x : Member). not (is_automatic x.def.name)) (own_members models parent) w.0 w.1, sym (ap (λ (x : Member). x.def.name) w.2))

  abbrev FromLinks : List Inherits → Member → Inherits → Type 0
  FromLinks links m i = Contains links i × (parent : Gathered) × (model_of models i.model ≡ Some parent) × (field : Member) × Contains (own_members models parent) field × (m.def.name ≡ field.def.name)

  by_links : (g : Gathered) (links : List Inherits) (m : Member) (i : Inherits) → Contains (delegated_by models g links) m → m.role ≡ delegated i → FromLinks links m i
  by_links g [] m i c e = absurd (contains-none m c)
  by_links g (j ∷ later) m i c e =
      elim (Contains-append_cases
      (filter (λ (x : Member). is_none (named (own_members models g) x.def.name) && is_none (named (delegated_by models g later) x.def.name)) (delegated_through models g.entry j))
      (delegated_by models g later) m c) [
        | inl here ↦
            (let w = through_link g.entry j i m (contains-filter _ (delegated_through models g.entry j) m here) e in
            (subst (λ (x : Inherits). Contains (j ∷ later) x) w.0 (contains-first j later), w.1, ap (λ (x : Inherits). model_of models x.model) (sym w.0) ∙ w.2, w.3, w.4, w.5))
        | inr behind ↦ (let w = by_links g later m i behind e in (contains-later j later i w.0, w.1, w.2, w.3, w.4, w.5))
      ]

  delegated-comes : (g : Gathered) (m : Member) (i : Inherits) → Contains (members_of models g) m → m.role ≡ delegated i → FromLinks (links_of models g) m i
  delegated-comes g m i c e = elim (Contains-append_cases (own_members models g) (delegated_by models g (links_of models g)) m c) [
    | inl mine ↦ absurd (own_is_own g m i mine e)
    | inr through ↦ by_links g (links_of models g) m i through e
  ]

  -- the link is a field of the model
  link-there : (g : Gathered) (i : Inherits) → Contains (links_of models g) i → (found : Member) × (named (members_of models g) i.link ≡ Some found)
  link-there g i c =
      named-one (members_of models g) i.link (own_member g.entry (link_def i))
      (Contains-append_left (own_members models g) (delegated_by models g (links_of models g)) (own_member g.entry (link_def i))
      (Contains-append_right (given_members g) (map (λ (j : Inherits). own_member g.entry (link_def j)) (links_of models g)) (own_member g.entry (link_def i))
      (contains-mapped (λ (j : Inherits). own_member g.entry (link_def j)) (links_of models g) i c))) refl

  -- a field of a name has a number
  pub number-there : (g : Gathered) (name : List ℕ) (m : Member) → named (members_of models g) name ≡ Some m → number_named models g name ≡ Some (number_of models g name)
  number-there g name m e =
      ap (option_map (λ (x : Member). number_of models g x.def.name)) e ∙ ap (λ (n : List ℕ). Some (number_of models g n)) (named-is (members_of models g) name m e)

  -- a model of a name has a number
  model-number-there : (name : List ℕ) (g : Gathered) → model_of models name ≡ Some g → (target : ModelNo) × (model_number models name ≡ Some target)
  model-number-there name g e = let w = found-placed (λ (m : Gathered). bytes_eq m.name name) models g e in (record { 0 = suc w.0 }, ap (option_map (λ (i : ℕ). let n : ModelNo = record { 0 = suc i } in n)) w.1)

  abbrev delegated_at : ModelNo → FieldNo → FieldNo → Delegation
  delegated_at target link field = record { link = link; model = target; field = field }

  abbrev with_field : FieldNo → ModelNo → Option FieldNo → Option Delegation
  with_field link target field = option_map (delegated_at target link) field

  abbrev with_link : Option FieldNo → Option FieldNo → ModelNo → Option Delegation
  with_link field link target = option_and_then (λ l. with_field l target field) link

  abbrev with_target : Option FieldNo → Option FieldNo → Option ModelNo → Option Delegation
  with_target field link target = option_and_then (with_link field link) target

  -- so a delegated field has its delegation, whose two steps are the field's
  pub delegated-steps : (number : ModelNo) (g : Gathered) (name : List ℕ) (m : Member) (i : Inherits) → named (members_of models g) name ≡ Some m → m.role ≡ delegated i
      → (d : Delegation) × (delegation_of models g i name ≡ Some d) × (steps_through models number g name (delegated i) ≡ step_at number d.link ∷ step_at d.model d.field ∷ [])
  delegated-steps number g name m i found role =
      let w = delegated-comes g m i (named-among (members_of models g) name m found) role in
      let p = w.1 in
      let link = link-there g i w.0 in
      let target = model-number-there i.model p w.2 in
      let field = named-one (members_of models p) name w.3 (Contains-append_left (own_members models p) (delegated_by models p (links_of models p)) w.3 w.4) (sym w.5 ∙ named-is (members_of models g) name m found) in
      let d : Delegation = delegated_at target.0 (number_of models g i.link) (number_of models p name) in (
        d,
        ap (λ (o : Option Gathered). option_and_then (λ (q : Gathered). with_target (number_named models q name) (number_named models g i.link) (model_number models i.model)) o) w.2
            ∙ ap (with_target (number_named models p name) (number_named models g i.link)) target.1
            ∙ ap (λ (o : Option FieldNo). with_link (number_named models p name) o target.0) (number-there g i.link link.0 link.1)
            ∙ ap (with_field (number_of models g i.link) target.0) (number-there p name field.0 field.1),
        ap (λ (o : Option Gathered). option_map_or (λ (q : Gathered). steps_behind (step_at number (number_of models g i.link)) (model_number models i.model) (number_of models q name)) o []) w.2
            ∙ ap (λ (o : Option ModelNo). steps_behind (step_at number (number_of models g i.link)) o (number_of models p name)) target.1,
      )
