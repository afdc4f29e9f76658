-- What a name stands for in a model, as the program finds it.
use Rattle.std.proofs.Common.{◌≡◌, ℕ, ◌-◌, ◌<◌, ◌≤◌, List, Option, Some, None, option_map, refl, sym, ap, ◌∙◌, Bool, false, Bor}
use Rattle.std.specs.Prelude.{Contains, IsSomeAnd, option_and_then, slice_get}
use Rattle.std.proofs.lemmas.Bool.{false≢true}
use Rattle.ob_base.specs.declared.id.FieldNo.{FieldNo}
use Rattle.ob_base.specs.declared.id.ModelNo.{ModelNo}
use Rattle.ob_expr.specs.declared.kind.Found.{Found}
use Rattle.ob_expr.specs.declared.kind.Kind.{Kind}
use Rattle.ob_definition.specs.declared.definition.FieldDef.{FieldDef}
use Rattle.ob_definition.specs.declared.definition.Inherits.{Inherits}
use Rattle.ob_definition.specs.Gathered.{Gathered, model_of}
use Rattle.ob_definition.specs.Members.{Member, Role, own, delegated, hidden, is_delegated, members_of, model_at, model_number, named, number_named, number_of}
use Rattle.ob_schema.specs.declared.info.Delegation.{Delegation}
use Rattle.ob_registry.specs.declared.model.Model.{Model}
use Rattle.ob_registry.specs.declared.model.Role.{Role as KeptRole}
use Rattle.ob_registry.specs.declared.model.Role.TheVariants as kept
use Rattle.ob_schema.specs.Built.{numbered}
use Rattle.ob_schema.specs.Finds.{found_as, found_at, found_in, is_usable, kind_of_field}
use Rattle.ob_registry.specs.ModelFields.{members_in, named_in, number_in, role_of}
use Rattle.ob_registry.specs.Modelling.{IsModelled, delegation_of}
use Rattle.ob_registry.proofs.DelegatedFields.{delegated_from, number_of_field, number_of_link}
use Rattle.ob_registry.proofs.Delegations.{behind}
use Rattle.ob_registry.proofs.ModelNumbers.{named_by_number, named_read}
use Rattle.ob_registry.proofs.NamedFields.{named_modelled, number_modelled}
use Rattle.ob_registry.proofs.NameOrder.{named_found}

-- a value that there is
pub some_and : {X : Type 0} {P : X → Type 0} (o : Option X) → IsSomeAnd o P → (x : X) × (o ≡ Some x) × P x
some_and None none = absurd none
some_and (Some x) is = (x, refl, is)

module _ (models : List Gathered) (g : Gathered) (model : Model) (is : IsModelled models g model) where
  -- a name without a number has no field
  pub named_missing : (name : List ℕ) → number_in (named_in model.named model.members.items) name ≡ None → named (members_of models g) name ≡ None
  named_missing name none =
      let front = named_in model.named model.members.items in
      sym (named_modelled models g model is name) ∙ named_by_number front name ∙ ap (option_and_then (λ (n : FieldNo). numbered front n.0)) none

  module _ (name : List ℕ) (number : FieldNo) (m : Member) (found : number_in (named_in model.named model.members.items) name ≡ Some number) (low : 0 < number.0) (within : number.0 ≤ model.named)
      (at : slice_get (members_in model.members.items) (number.0 - 1) ≡ Some m) where
    -- the field at the number of a name is the field of that name
    pub named_at : named (members_of models g) name ≡ Some m
    named_at = sym (named_modelled models g model is name) ∙ named_read (members_in model.members.items) model.named name number m found low within at

    pub among_at : Contains (members_of models g) m
    among_at = (named_found (members_of models g) name m named_at).0

    -- and it has the number of its name
    pub number_at_name : number ≡ number_of models g m.def.name
    number_at_name =
        let same : Some number ≡ Some (number_of models g m.def.name) = sym found ∙ number_modelled models g model is name ∙ ap (option_map (λ (x : Member). number_of models g x.def.name)) named_at in
        cc

module _ (models : List Gathered) (g : Gathered) where
  -- a name that no field has stands for nothing
  pub found_missing : (number : ModelNo) (name : List ℕ) → model_at models number.0 ≡ Some g → named (members_of models g) name ≡ None → found_at models number name ≡ None
  found_missing number name known none =
      ap (option_and_then (λ (x : Gathered). found_in models x name)) known ∙ ap (option_and_then (λ (m : Member). option_and_then (λ k. found_as models g m.def k m.role) (kind_of_field models m.def))) none

  pub found_kinded : (number : ModelNo) (name : List ℕ) (m : Member) → model_at models number.0 ≡ Some g → named (members_of models g) name ≡ Some m
      → found_at models number name ≡ option_and_then (λ k. found_as models g m.def k m.role) (kind_of_field models m.def)
  found_kinded number name m known there =
      ap (option_and_then (λ (x : Gathered). found_in models x name)) known ∙ ap (option_and_then (λ (m : Member). option_and_then (λ k. found_as models g m.def k m.role) (kind_of_field models m.def))) there

  -- nor does a field without a kind
  pub found_no_kind : (number : ModelNo) (name : List ℕ) (m : Member) → model_at models number.0 ≡ Some g → named (members_of models g) name ≡ Some m → kind_of_field models m.def ≡ None → found_at models number name ≡ None
  found_no_kind number name m known there none = found_kinded number name m known there ∙ ap (option_and_then (λ k. found_as models g m.def k m.role)) none

  pub found_of_kind : (number : ModelNo) (name : List ℕ) (m : Member) (k : Kind) → model_at models number.0 ≡ Some g → named (members_of models g) name ≡ Some m → kind_of_field models m.def ≡ Some k
      → found_at models number name ≡ found_as models g m.def k m.role
  found_of_kind number name m k known there some = found_kinded number name m known there ∙ ap (option_and_then (λ k. found_as models g m.def k m.role)) some

  -- an own field stands in the row
  pub found_own : (f : FieldDef) (k : Kind) (role : Role) → is_delegated role ≡ false → found_as models g f k role ≡ Some (record { via = None; field = number_of models g f.name; kind = k; usable = is_usable f })
  found_own f k own e = refl
  found_own f k hidden e = refl
  found_own f k (delegated i) e = absurd (false≢true (sym e))

  -- a delegated one stands where its value does
  abbrev pub found_behind : FieldDef → Kind → Delegation → Found
  found_behind f k at = record { via = Some (at.link, at.model); field = at.field; kind = k; usable = is_usable f }

  pub found_delegated : (m : Member) (k : Kind) (i : Inherits) → Contains (members_of models g) m → m.role ≡ delegated i
      → found_as models g m.def k m.role ≡ option_map (found_behind m.def k) (delegation_of models g i m.def.name)
  found_delegated m k i here role =
      let from = delegated_from models g m i here role in
      ap (found_as models g m.def k) role ∙ by from.1.parent from.1.is_parent (number_of_link models g i from.0) (number_of_field models g i m from.1)
    where
      stands : Gathered → ModelNo → Found
      stands p target = record { via = Some (number_of models g i.link, target); field = number_of models p m.def.name; kind = k; usable = is_usable m.def }

      behind_link : FieldNo → ModelNo → FieldNo → Delegation
      behind_link = behind models g i m.def.name

      each : (p : Gathered) (target : Option ModelNo)
          → option_map (stands p) target ≡ option_map (found_behind m.def k) (option_and_then (λ t. Some (behind_link (number_of models g i.link) t (number_of models p m.def.name))) target)
      each p None = refl
      each p (Some t) = refl

      by : (p : Gathered) → model_of models i.model ≡ Some p → number_named models g i.link ≡ Some (number_of models g i.link) → number_named models p m.def.name ≡ Some (number_of models p m.def.name)
          → found_as models g m.def k (delegated i) ≡ option_map (found_behind m.def k) (delegation_of models g i m.def.name)
      by p parent link field =
          let target = model_number models i.model in
          let name = m.def.name in
          ap (option_and_then (λ (p : Gathered). option_map (stands p) target)) parent ∙ each p target
          ∙ ap (option_map (found_behind m.def k)) (sym
          (ap (option_and_then (λ (p : Gathered). option_and_then (λ t. option_and_then (λ l. option_map (behind_link l t) (number_named models p name)) (number_named models g i.link)) target)) parent
          ∙ ap (λ (o : Option FieldNo). option_and_then (λ t. option_and_then (λ l. option_map (behind_link l t) (number_named models p name)) o) target) link
          ∙ ap (λ (o : Option FieldNo). option_and_then (λ t. option_map (behind_link (number_of models g i.link) t) o) target) field))

-- a role that isn't delegated, as the program has it
pub not_delegated : (role : KeptRole) → ((link : Bor Inherits) → role ≡ kept.Delegated link → ⊥) → is_delegated (role_of role) ≡ false
not_delegated kept.Own other = refl
not_delegated kept.Hidden other = refl
not_delegated (kept.Delegated link) other = absurd (other link refl)

-- where a name stands
abbrev pub stands_at : Option (FieldNo × ModelNo) × FieldNo → Kind → Bool → Found
stands_at via k usable = record { via = via.0; field = via.1; kind = k; usable = usable }
