-- The field at a step, as the program looks it up.
use Rattle.std.proofs.Common.{◌≡◌, ℕ, zero, suc, ◌-◌, ◌≤◌, List, Option, Some, None, option_map, refl, sym, ap, subst, ◌∙◌, arith, Bor}
use Rattle.std.specs.Prelude.{◌↔◌, IsSomeAnd, slice_get}
use Rattle.std.specs.Slice.{IsItemAt}
use Rattle.std.proofs.lemmas.Option.{slice_get-map}
use Rattle.ob_definition.specs.Gathered.{Gathered}
use Rattle.ob_definition.specs.Members.{Member, model_at}
use Rattle.ob_schema.specs.declared.info.Step.{Step}
use Rattle.ob_registry.specs.declared.model.Member.{Member as KeptMember}
use Rattle.ob_registry.specs.declared.model.Model.{Model}
use Rattle.ob_schema.specs.Built.{numbered}
use Rattle.ob_registry.specs.ModelFields.{member_of, members_in}
use Rattle.ob_registry.specs.Modelling.{IsModelled}
use Rattle.ob_schema.specs.Strata.{IsMember}
use Rattle.ob_registry.proofs.ModelPlaces.{item_at}
use Rattle.ob_registry.proofs.NamedFields.{is_member_at, member_of_step, member_parts, numbered_less}

-- a field that is lent
abbrev pub lent_member : Option (Bor KeptMember) → Option Member
lent_member o = option_map (λ member. member_of member.now) o

lent-map : (o : Option (Bor KeptMember)) → lent_member o ≡ option_map member_of (option_map (λ x. x.now) o)
lent-map None = refl
lent-map (Some m) = refl

-- what stands at a number
pub member_lent : (members : List KeptMember) (number i : ℕ) (r : Option (Bor KeptMember)) → 1 ≤ number → i ≡ number - 1 → IsItemAt members i r → lent_member r ≡ numbered (members_in members) number
member_lent members number i r low is item =
    lent-map r ∙ ap (option_map member_of) (item_at members i r item) ∙ sym (slice_get-map member_of members i)
    ∙ ap (slice_get (members_in members)) is ∙ numbered_less (members_in members) number (omega arith)

pub member_not_lent : (members : List KeptMember) (number : ℕ) (r : Option (Bor KeptMember)) → (1 ≤ number → ⊥) → r ≡ None → lent_member r ≡ numbered (members_in members) number
member_not_lent members zero r none is = ap lent_member is
member_not_lent members (suc n) r none is = absurd (none (omega arith))

module _ (models : List Gathered) (step : Step) where
  same_model : (o : Option Gathered) (g h : Gathered) → o ≡ Some h → o ≡ Some g → h ≡ g
  same_model o g h e f = let s : ◌≡◌ {A = Option Gathered} (Some h) (Some g) = sym e ∙ f in cc

  -- a field at a step is one of the step's model at its number
  pub member_found : (model : Model) (found : Option Member) → IsSomeAnd (model_at models step.model.0) (λ g. IsModelled models g model) → found ≡ numbered (members_in model.members.items) step.field.0
      → (g : Gathered) (m : Member) → IsMember models step g m ↔ ((model_at models step.model.0 ≡ Some g) × (found ≡ Some m))
  member_found model found there at g m = by (model_at models step.model.0) refl there
    where
      modelled : (h : Gathered) → model_at models step.model.0 ≡ Some h → IsModelled models h model → model_at models step.model.0 ≡ Some g → IsModelled models g model
      modelled h e is known = subst (λ (x : Gathered). IsModelled models x model) (same_model (model_at models step.model.0) g h e known) is

      by : (o : Option Gathered) → model_at models step.model.0 ≡ o → IsSomeAnd o (λ h. IsModelled models h model) → IsMember models step g m ↔ ((model_at models step.model.0 ≡ Some g) × (found ≡ Some m))
      by None e none = absurd none
      by (Some h) e is = (
        λ member. (let known = (member_parts models step g m member).0 in (known, at ∙ member_of_step models g model (modelled h e is known) step m member)),
        λ both. is_member_at models g model (modelled h e is both.0) step m both.0 (sym at ∙ both.1),
      )

  -- so only one stands at a step, where the program has the model
  pub member_once : (model : Model) → IsSomeAnd (model_at models step.model.0) (λ g. IsModelled models g model) → (g h : Gathered) (m n : Member) → IsMember models step g m → IsMember models step h n → (g ≡ h) × (m ≡ n)
  member_once model there g h m n one other =
      let fields = members_in model.members.items in
      let first = (member_found model (numbered fields step.field.0) there refl g m).0 one in
      let second = (member_found model (numbered fields step.field.0) there refl h n).0 other in
      (same_model (model_at models step.model.0) h g first.0 second.0, (let s : ◌≡◌ {A = Option Member} (Some m) (Some n) = sym first.1 ∙ second.1 in cc))
