-- The steps through a field, as they are added behind others.
use Rattle.std.proofs.Common.{◌≡◌, ℕ, List, [], ◌∷◌, ◌++◌, append_assoc, Option, Some, None, refl, sym, ap, subst, ◌∙◌}
use Rattle.std.specs.Prelude.{IsSomeAnd}
use Rattle.std.specs.Borrow.{Bor}
use Rattle.ob_base.specs.declared.id.FieldNo.{FieldNo}
use Rattle.ob_base.specs.declared.id.ModelNo.{ModelNo}
use Rattle.ob_definition.specs.declared.definition.Inherits.{Inherits}
use Rattle.ob_definition.specs.Gathered.{Gathered}
use Rattle.ob_definition.specs.Members.{members_of, model_at, named, number_of}
use Rattle.ob_schema.specs.declared.info.Delegation.{Delegation}
use Rattle.ob_schema.specs.declared.info.Step.{Step}
use Rattle.ob_registry.specs.declared.model.Member.{Member as KeptMember}
use Rattle.ob_registry.specs.declared.model.Model.{Model}
use Rattle.ob_registry.specs.declared.model.Role.{Role as KeptRole}
use Rattle.ob_registry.specs.declared.model.Role.TheVariants as kept
use Rattle.ob_registry.specs.ModelFields.{member_of, named_in, number_in, role_of}
use Rattle.ob_registry.specs.Modelling.{IsModelled, delegation_of}
use Rattle.ob_schema.specs.Paths.{step_at, steps_through}
use Rattle.ob_registry.proofs.DelegatedSteps.{delegated-steps, number-there}
use Rattle.ob_schema.proofs.CallerLemmas.{known_by, value_of}
use Rattle.ob_registry.proofs.NamedFields.{number_modelled}

module _ (models : List Gathered) (number : ModelNo) (model : Model) (m : KeptMember) (old new : List Step) where
  abbrev name : List ℕ
  name = m.def.now.name

  abbrev IsNamed : Gathered → Type 0
  IsNamed g = named (members_of models g) m.def.now.name ≡ Some (member_of m)

  abbrev IsGrown : Gathered → Type 0
  IsGrown g = new ≡ old ++ steps_through models number g m.def.now.name (member_of m).role

  module _ (by_name : IsSomeAnd (model_at models number.0) (λ g. named (members_of models g) m.def.now.name ≡ Some (member_of m))) (modelled : IsSomeAnd (model_at models number.0) (λ g. IsModelled models g model)) where
    -- the two of a delegated field
    pub grown-two : (i : Bor Inherits) (d : Delegation) (mid : List Step) → m.role ≡ kept.Delegated i → ((g : Gathered) → IsModelled models g model → Some d ≡ delegation_of models g i.now m.def.now.name)
        → mid ≡ old ++ step_at number d.link ∷ [] → new ≡ mid ++ step_at d.model d.field ∷ [] → IsSomeAnd (model_at models number.0) (λ g. new ≡ old ++ steps_through models number g m.def.now.name (member_of m).role)
    grown-two i d mid role told first second =
        let w = value_of (model_at models number.0) IsNamed by_name in
        let g : Gathered = w.0 in
        let v = value_of (model_at models number.0) (λ h. IsModelled models h model) modelled in
        let same : v.0 ≡ g = let e : ◌≡◌ {A = Option Gathered} (Some v.0) (Some g) = sym v.1 ∙ w.1 in cc in
        let steps = delegated-steps models number g name (member_of m) i.now w.2 (ap role_of role) in
        let is : Some d ≡ delegation_of models g i.now name = told g (subst (λ (h : Gathered). IsModelled models h model) same v.2) in
        let alike : d ≡ steps.0 = let e : ◌≡◌ {A = Option Delegation} (Some d) (Some steps.0) = is ∙ steps.1 in cc in
        known_by (model_at models number.0) IsGrown g w.1
        (second ∙ ap (λ (l : List Step). l ++ step_at d.model d.field ∷ []) first ∙ append_assoc old (step_at number d.link ∷ []) (step_at d.model d.field ∷ [])
        ∙ ap (λ (x : Delegation). old ++ (step_at number x.link ∷ step_at x.model x.field ∷ [])) alike
        ∙ ap (λ (l : List Step). old ++ l) (sym steps.2)
        ∙ ap (λ (r : KeptRole). old ++ steps_through models number g name (role_of r)) (sym role))

    step_of : (role : KeptRole) (g : Gathered) → ((i : Bor Inherits) → role ≡ kept.Delegated i → ⊥) → steps_through models number g name (role_of role) ≡ step_at number (number_of models g name) ∷ []
    step_of kept.Own g apart = refl
    step_of (kept.Delegated i) g apart = absurd (apart i refl)
    step_of kept.Hidden g apart = refl

    -- a delegated field has its delegation
    pub no-delegation : (i : Bor Inherits) → m.role ≡ kept.Delegated i → ((g : Gathered) → IsModelled models g model → None ≡ delegation_of models g i.now m.def.now.name) → ⊥
    no-delegation i role told =
        let w = value_of (model_at models number.0) IsNamed by_name in
        let g : Gathered = w.0 in
        let v = value_of (model_at models number.0) (λ h. IsModelled models h model) modelled in
        let same : v.0 ≡ g = let e : ◌≡◌ {A = Option Gathered} (Some v.0) (Some g) = sym v.1 ∙ w.1 in cc in
        let steps = delegated-steps models number g name (member_of m) i.now w.2 (ap role_of role) in
        let is : None ≡ delegation_of models g i.now name = told g (subst (λ (h : Gathered). IsModelled models h model) same v.2) in
        let e : ◌≡◌ {A = Option Delegation} None (Some steps.0) = is ∙ steps.1 in cc

    -- the field has its number
    numbered : (found : Option FieldNo) → found ≡ number_in (named_in model.named model.members.items) m.def.now.name → (g : Gathered) × (model_at models number.0 ≡ Some g) × (found ≡ Some (number_of models g m.def.now.name))
    numbered found at =
        let w = value_of (model_at models number.0) IsNamed by_name in
        let g : Gathered = w.0 in
        let v = value_of (model_at models number.0) (λ h. IsModelled models h model) modelled in
        let same : v.0 ≡ g = let e : ◌≡◌ {A = Option Gathered} (Some v.0) (Some g) = sym v.1 ∙ w.1 in cc in
        let as_g : IsModelled models g model = subst (λ (h : Gathered). IsModelled models h model) same v.2 in
        (g, w.1, at ∙ number_modelled models g model as_g name ∙ number-there models g name (member_of m) w.2)

    pub no-none : None ≡ number_in (named_in model.named model.members.items) m.def.now.name → ⊥
    no-none at = let w = numbered None at in let e : ◌≡◌ {A = Option FieldNo} None (Some (number_of models w.0 name)) = w.2 in cc

    -- the one step of another field
    pub grown-one : (field : FieldNo) → ((i : Bor Inherits) → m.role ≡ kept.Delegated i → ⊥) → Some field ≡ number_in (named_in model.named model.members.items) m.def.now.name
        → new ≡ old ++ step_at number field ∷ [] → IsSomeAnd (model_at models number.0) (λ g. new ≡ old ++ steps_through models number g m.def.now.name (member_of m).role)
    grown-one field apart at grown =
        let w = numbered (Some field) at in
        let g : Gathered = w.0 in
        let is : field ≡ number_of models g name = let e : ◌≡◌ {A = Option FieldNo} (Some field) (Some (number_of models g name)) = w.2 in cc in
        known_by (model_at models number.0) IsGrown g w.1
        (grown ∙ ap (λ (f : FieldNo). old ++ step_at number f ∷ []) is ∙ ap (λ (l : List Step). old ++ l) (sym (step_of m.role g apart)))
