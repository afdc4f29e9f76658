-- A model in its place, with the formulas of its fields, as its part of the registry is made.
use Rattle.std.proofs.Common.{◌≡◌, ℕ, zero, suc, ◌+◌, ◌<◌, ◌≤◌, inl, inr, Option, Some, List, [], ◌∷◌, ◌++◌, length, get_or, take, Vec, refl, sym, ap, subst, ◌∙◌, arith}
use Rattle.std.specs.Prelude.{IsSomeAnd, option_and_then, slice_get}
use Rattle.std.specs.List.{AllZip}
use Rattle.std.specs.declared.alloc.Global.{Global}
use Rattle.std.proofs.lemmas.Bool.{cases_lt}
use Rattle.std.proofs.lemmas.List.{length-map}
use Rattle.std.proofs.lemmas.Option.{same_Some, slice_get-get_or, slice_get_read, slice_get_within}
use Rattle.ob_base.specs.declared.id.ModelNo.{ModelNo}
use Rattle.ob_definition.specs.Gathered.{Gathered}
use Rattle.ob_definition.specs.Members.{Member, model_number}
use Rattle.ob_registry.specs.declared.formulas.DraftFormula.{DraftFormula}
use Rattle.ob_schema.specs.declared.info.ModelInfo.{ModelInfo}
use Rattle.ob_schema.specs.declared.info.Step.{Step}
use Rattle.ob_registry.specs.declared.model.Model.{Model as KeptModel}
use Rattle.ob_registry.specs.Building.{ArePlaced, AreResolved, IsResolved}
use Rattle.ob_schema.specs.Built.{IsModelOf, numbered}
use Rattle.ob_registry.specs.Graphs.{AreFormulas, HaveStrata, formula_in}
use Rattle.ob_registry.specs.ModelFields.{member_of, members_in}
use Rattle.ob_registry.specs.Modelling.{AreModelled, IsModelled}
use Rattle.ob_schema.specs.Paths.{step_at}
use Rattle.ob_schema.specs.Strata.{IsMember}
use Rattle.ob_registry.specs.Telling.{IsFormulaOf}
use Rattle.ob_definition.proofs.CallerLemmas.{zip_more}
use Rattle.ob_registry.proofs.AllSteps.{step-there}
use Rattle.ob_registry.proofs.FormulaLoops.{as_many as all_models}
use Rattle.ob_registry.proofs.ModelPlaces.{zip_some}
use Rattle.ob_registry.proofs.NamedFields.{is_member_at}
use Rattle.ob_registry.proofs.RegistryPlaces.{model_no, place_number, value_there}
use Rattle.ob_registry.proofs.Resolved.{are_placed, model_resolved}
use Rattle.ob_registry.proofs.StepMembers.{kept-count}

-- one list less is left, one place on
pub steps_on : (place left rest total : ℕ) → place + left ≡ total → rest + 1 ≡ left → place + 1 + rest ≡ total
steps_on place left rest total before next = omega arith

-- where none is left, all are done
pub all_done : (place left total count : ℕ) → place + left ≡ total → left ≡ 0 → total ≡ count → count ≤ place
all_done place left total count before none same = omega arith

-- the model at the place of a list of formulas
module _ (models gathering : List Gathered) (list lent : List KeptModel) (formulas : List (Vec (Option DraftFormula) Global)) (modelled : AreModelled gathering list) (view : gathering ≡ models) (same : lent ≡ list)
    (are : AreFormulas models formulas) (place : ℕ) (own : Vec (Option DraftFormula) Global) (given : slice_get formulas place ≡ Some own) where
  pub lent_within : place < length lent
  lent_within =
      let many : length list ≡ length models = all_models models gathering list modelled view in
      let size : length lent ≡ length list = ap (λ (l : List KeptModel). length l) same in
      let count = are.count in
      let low = slice_get_within formulas place own given in
      omega arith

  pub lent_at : (model : KeptModel) → model ≡ get_or lent place model → slice_get list place ≡ Some model
  lent_at model is = ap (λ (l : List KeptModel). slice_get l place) (sym same) ∙ slice_get_read lent (length lent) place model refl lent_within is

module _ (models : List Gathered) (resolved : AreResolved models) (formulas : List (Vec (Option DraftFormula) Global)) (are : AreFormulas models formulas) (strata : HaveStrata models formulas)
    (list : List KeptModel) (modelled : AreModelled models list) (place : ℕ) (model : KeptModel) (own : Vec (Option DraftFormula) Global)
    (here : slice_get list place ≡ Some model) (given : slice_get formulas place ≡ Some own) where
  found : (g : Gathered) × (slice_get models place ≡ Some g) × IsModelled models g model
  found = value_there (λ g. IsModelled models g model) (slice_get models place) (zip_some (IsModelled models) models list modelled.each place model here)

  abbrev g : Gathered
  g = found.0

  abbrev number : ModelNo
  number = model_no place

  abbrev step : ℕ → Step
  step k = step_at number (record { 0 = suc k })

  formula_read : (k : ℕ) → formula_in formulas (step k) ≡ slice_get own.items k
  formula_read k = ap (λ (o : Option (Vec (Option DraftFormula) Global)). option_and_then (λ row. numbered row.items (suc k)) o) given

  member_read : (k : ℕ) (m : Member) → slice_get (members_in model.members.items) k ≡ Some m → IsMember models (step k) g m
  member_read k m at = is_member_at models g model found.2 (step k) m found.1 at

  formula_there : (k : ℕ) (m : Member) → slice_get (members_in model.members.items) k ≡ Some m → IsSomeAnd (slice_get own.items k) (IsFormulaOf (record { models = models; number = number; member = m }))
  formula_there k m at =
      subst (λ (o : Option (Option DraftFormula)). IsSomeAnd o (IsFormulaOf (record { models = models; number = number; member = m }))) (formula_read k) (are.each (step k) g m (member_read k m at))

  at_end : {X : Type 0} (xs : List X) (k : ℕ) → k < length xs → (x : X) × (slice_get xs k ≡ Some x)
  at_end [] k within = absurd (omega arith)
  at_end (x ∷ xs) zero within = (x, refl)
  at_end (x ∷ xs) (suc k) within = at_end xs k (omega arith)

  -- there are no fewer formulas than fields
  enough : length (members_in model.members.items) ≤ length own.items
  enough = elim (cases_lt (length own.items) (length (members_in model.members.items))) [
    | inl less ↦
        (let m = at_end (members_in model.members.items) (length own.items) less in
        let f = value_there (IsFormulaOf (record { models = models; number = number; member = m.0 })) (slice_get own.items (length own.items)) (formula_there (length own.items) m.0 m.1) in
        let within = slice_get_within own.items (length own.items) f.0 f.1 in
        absurd (omega arith))
    | inr over ↦ over
  ]

  -- and no more
  few : length own.items ≤ length (members_in model.members.items)
  few = elim (cases_lt (length (members_in model.members.items)) (length own.items)) [
    | inl less ↦
        (let k = length (members_in model.members.items) in
        let f = at_end own.items k less in
        let there = step-there models (step k) (are.only (step k) f.0 (formula_read k ∙ f.1)) in
        let count = kept-count models (step k) model (subst (λ (o : Option Gathered). IsSomeAnd o (λ g. IsModelled models g model)) (sym found.1) found.2) there.0 there.1 in
        let same = length-map model.members.items member_of in
        let high = there.3 in
        absurd (omega arith))
    | inr over ↦ over
  ]

  pub as_many : length own.items ≡ length model.members.items
  as_many =
      let same : length (members_in model.members.items) ≡ length model.members.items = length-map model.members.items member_of in
      let low = enough in
      let high = few in
      omega arith

  placed : ArePlaced models model own.items g number
  placed = are_placed models resolved number g found.1 model found.2 own.items
      (λ k m formula at is. let f = value_there (IsFormulaOf (record { models = models; number = number; member = m })) (slice_get own.items k) (formula_there k m at) in
      subst (IsFormulaOf (record { models = models; number = number; member = m })) (same_Some f.0 formula (sym f.1 ∙ is)) f.2)
      (λ k formula is. strata (step k) formula (formula_read k ∙ is))

  -- what is made of the model is its part of the registry
  pub made_at : (infos : List ModelInfo) (info : ModelInfo) → AllZip (IsModelOf models) (take place models) infos
      → ((g : Gathered) (number : ModelNo) → ArePlaced models model own.items g number → model_number models g.name ≡ Some number → IsModelled models g model → IsResolved models g → IsModelOf models g info)
      → AllZip (IsModelOf models) (take (place + 1) models) (infos ++ info ∷ [])
  made_at infos info before of =
      let within : place < length models = slice_get_within models place g found.1 in
      let read : g ≡ get_or models place g = same_Some g (get_or models place g) (sym found.1 ∙ slice_get-get_or models place g within) in
      zip_more (IsModelOf models) models place g infos info within read before
      (of g number placed (place_number models resolved.named.distinct place g found.1) found.2 (model_resolved models resolved number g found.1))
