-- The field of a step, in the model as the program has it.
use Rattle.std.proofs.Common.{◌≡◌, ◌-◌, ◌<◌, List, length, Option, Some, None, refl, sym, subst, ◌∙◌, arith}
use Rattle.std.specs.Prelude.{IsSomeAnd, slice_get}
use Rattle.std.proofs.lemmas.List.{length-drop, length-map}
use Rattle.std.proofs.lemmas.List.Sorted.{length_permutation}
use Rattle.std.proofs.lemmas.Option.{same_Some}
use Rattle.ob_definition.specs.Gathered.{Gathered}
use Rattle.ob_definition.specs.Members.{Member, hidden_members, model_at}
use Rattle.ob_schema.specs.declared.info.Step.{Step}
use Rattle.ob_registry.specs.declared.model.Model.{Model}
use Rattle.ob_registry.specs.ModelFields.{member_of, members_in}
use Rattle.ob_registry.specs.Modelling.{IsModelled}
use Rattle.ob_schema.specs.Strata.{IsMember}
use Rattle.ob_registry.proofs.AllSteps.{field_count}
use Rattle.ob_registry.proofs.NamedFields.{back, hidden_moved, is_member_at, member_of_step, member_parts, named_count, numbered_less}

some-and : {X : Type 0} (P : X → Type 0) (o : Option X) → IsSomeAnd o P → (x : X) × (o ≡ Some x) × P x
some-and P None is = absurd is
some-and P (Some x) is = (x, refl, is)

module _ (models : List Gathered) (step : Step) (model : Model) (there : IsSomeAnd (model_at models step.model.0) (λ g. IsModelled models g model)) where
  abbrev found : (g : Gathered) × (model_at models step.model.0 ≡ Some g) × IsModelled models g model
  found = some-and (λ g. IsModelled models g model) (model_at models step.model.0) there

  -- as many fields are kept as there are
  pub kept-count : (g : Gathered) → model_at models step.model.0 ≡ Some g → field_count models g ≡ length model.members.items
  kept-count g known =
      let is : IsModelled models g model = subst (λ (x : Gathered). IsModelled models x model) (same_Some found.0 g (sym found.1 ∙ known)) found.2 in
      let named = named_count models g model is in
      let behind = length_permutation (hidden_members g) (back models g model is) (hidden_moved models g model is) in
      let rest = length-drop model.named (members_in model.members.items) in
      let all = length-map model.members.items member_of in
      let low = model.within in
      omega arith

  module _ (m : Member) (low : 0 < step.field.0) (here : slice_get (members_in model.members.items) (step.field.0 - 1) ≡ Some m) where
    pub kept-member : (g : Gathered) × IsMember models step g m
    kept-member = (found.0, is_member_at models found.0 model found.2 step m found.1 (sym (numbered_less (members_in model.members.items) step.field.0 low) ∙ here))

    pub kept-single : (g : Gathered) (other : Member) → IsMember models step g other → other ≡ m
    kept-single g other is =
        let same : g ≡ found.0 = same_Some g found.0 (sym (member_parts models step g other is).0 ∙ found.1) in
        let own = member_of_step models found.0 model found.2 step other (subst (λ (x : Gathered). IsMember models step x other) same is) in
        same_Some other m (sym own ∙ sym (numbered_less (members_in model.members.items) step.field.0 low) ∙ here)
