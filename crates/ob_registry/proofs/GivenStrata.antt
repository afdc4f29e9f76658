-- Formulas as they get their strata, one after another.
use Rattle.std.proofs.Common.{◌≡◌, ◌≢◌, ◌⊎◌, inl, inr, ℕ, suc, ◌+◌, ◌<◌, ◌≤◌, eqb, Bool, true, false, List, length, Option, Some, None, option_map, refl, sym, ap, subst, ◌∙◌, arith, Vec}
use Rattle.std.specs.Prelude.{◌↔◌, IsSomeAnd, slice_get}
use Rattle.std.specs.declared.alloc.Global.{Global}
use Rattle.std.proofs.lemmas.Bool.{cases_lt, false≢true}
use Rattle.std.proofs.lemmas.Bool.Decides.{Decides-eqb}
use Rattle.std.proofs.lemmas.Option.{none-some, same_Some}
use Rattle.ob_base.specs.Limits.{max_stratum}
use Rattle.ob_definition.specs.Gathered.{Gathered}
use Rattle.ob_definition.specs.Members.{Member}
use Rattle.ob_registry.specs.declared.graph.Graph.{Graph}
use Rattle.ob_registry.specs.declared.formulas.DraftFormula.{DraftFormula}
use Rattle.ob_schema.specs.declared.info.Step.{Step}
use Rattle.ob_schema.specs.Formulas.{Place}
use Rattle.ob_registry.specs.Graphs.{AreFormulas, AreHeights, IsGraph, all_steps, formula_in, with_stratum}
use Rattle.ob_schema.specs.Paths.{step_at}
use Rattle.ob_schema.specs.Strata.{Chain, IsMember, IsStratum}
use Rattle.ob_registry.specs.Telling.{IsFormulaOf}
use Rattle.ob_registry.proofs.ChainsOver.{chain-of_nodes, nodes-of_chain}

-- formulas by model and number
abbrev pub Rows : Type 0
Rows = List (Vec (Option DraftFormula) Global)

module _ (models : List Gathered) where
  -- as far as the limit, a field has as long chains as this
  pub record IsHeight (step : Step) (height : ℕ) : Type 0 where
    pub low : height ≤ suc max_stratum
    pub each : (n : ℕ) → n ≤ suc max_stratum → Chain models n step ↔ (n ≤ height)

  -- the first so many fields have it as the stratum of their formula
  abbrev pub AreGiven : Rows → ℕ → Type 0
  AreGiven formulas n = (k : ℕ) (step : Step) (formula : DraftFormula) → k < n → slice_get (all_steps models) k ≡ Some step → formula_in formulas step ≡ Some (Some formula) → IsHeight step formula.stratum

  -- none has it before the first
  pub given-none : (formulas : Rows) → AreGiven formulas 0
  given-none formulas k step formula lt here is = absurd (omega arith)

-- steps of the same numbers are one
same-numbers : (a b : Step) → a.model.0 ≡ b.model.0 → a.field.0 ≡ b.field.0 → a ≡ b
same-numbers a b model field =
    ap (λ (n : ℕ). step_at (record { 0 = n }) a.field) model ∙ ap (λ (n : ℕ). step_at b.model (record { 0 = n })) field

-- a field without a formula has no stratum to be given
pub kept-given : (models : List Gathered) (formulas : Rows) (n : ℕ) (step : Step) → slice_get (all_steps models) n ≡ Some step
    → ((formula : DraftFormula) → formula_in formulas step ≡ Some (Some formula) → ⊥) → AreGiven models formulas n → AreGiven models formulas (n + 1)
kept-given models formulas n step here none given = λ k own formula lt at is. elim (cases_lt k n) [
  | inl before ↦ given k own formula before at is
  | inr past ↦ (
      let end : k ≡ n = omega arith in
      let same : own ≡ step = same_Some own step (sym at ∙ ap (slice_get (all_steps models)) end ∙ here) in
      absurd (none formula (ap (formula_in formulas) (sym same) ∙ is)))
]

-- two steps are one or not
same-step : (a b : Step) → (a ≡ b) ⊎ (a ≢ b)
same-step a b = by (eqb a.model.0 b.model.0) refl (eqb a.field.0 b.field.0) refl
  where
    by : (m : Bool) → eqb a.model.0 b.model.0 ≡ m → (f : Bool) → eqb a.field.0 b.field.0 ≡ f → (a ≡ b) ⊎ (a ≢ b)
    by true m true f = inl (same-numbers a b ((Decides-eqb a.model.0 b.model.0).0 m) ((Decides-eqb a.field.0 b.field.0).0 f))
    by false m _ f = inr (λ same. false≢true (sym m ∙ (Decides-eqb a.model.0 b.model.0).1 (ap (λ (s : Step). s.model.0) same)))
    by true m false f = inr (λ same. false≢true (sym f ∙ (Decides-eqb a.field.0 b.field.0).1 (ap (λ (s : Step). s.field.0) same)))

-- the formula of one field has another stratum, the others are as they were
module _ (models : List Gathered) (old new : Rows) (step : Step) (stratum : ℕ) (there : formula_in new step ≡ option_map (option_map (with_stratum stratum)) (formula_in old step))
    (others : (other : Step) → other ≢ step → formula_in new other ≡ formula_in old other) where
  -- what is known of a formula is known whatever its stratum
  restrated : (p : Place) (o : Option DraftFormula) → IsFormulaOf p o → IsFormulaOf p (option_map (with_stratum stratum) o)
  restrated p None is = is
  restrated p (Some formula) is = record { computed = is.computed; depends = is.depends; typed = is.typed }

  restrated-some : (p : Place) (o : Option (Option DraftFormula)) → IsSomeAnd o (IsFormulaOf p) → IsSomeAnd (option_map (option_map (with_stratum stratum)) o) (IsFormulaOf p)
  restrated-some p None is = is
  restrated-some p (Some found) is = restrated p found is

  -- what has another stratum was there
  before-some : (o : Option (Option DraftFormula)) (found : Option DraftFormula) → option_map (option_map (with_stratum stratum)) o ≡ Some found → (was : Option DraftFormula) × (o ≡ Some was)
  before-some None found e = absurd (none-some found e)
  before-some (Some was) found e = (was, refl)

  -- each field still has its formula
  pub set-formulas : length new ≡ length old → AreFormulas models old → AreFormulas models new
  set-formulas same are = record {
    count = same ∙ are.count;
    each = λ own g m is. elim (same-step own step) [
      | inl same ↦ subst (λ (o : Option (Option DraftFormula)). IsSomeAnd o (IsFormulaOf (record { models = models; number = own.model; member = m }))) (sym (ap (formula_in new) same ∙ there))
          (restrated-some (record { models = models; number = own.model; member = m }) (formula_in old step)
          (subst (λ (s : Step). IsSomeAnd (formula_in old s) (IsFormulaOf (record { models = models; number = own.model; member = m }))) same (are.each own g m is)))
      | inr other ↦ subst (λ (o : Option (Option DraftFormula)). IsSomeAnd o (IsFormulaOf (record { models = models; number = own.model; member = m }))) (sym (others own other)) (are.each own g m is)
    ];
    only = λ own found is. elim (same-step own step) [
      | inl same ↦ (let was = before-some (formula_in old step) found (sym there ∙ ap (formula_in new) (sym same) ∙ is) in are.only own was.0 (ap (formula_in old) same ∙ was.1))
      | inr other ↦ are.only own found (sym (others own other) ∙ is)
    ];
  }

  -- a formula with a stratum has it
  stratum-is : (o : Option (Option DraftFormula)) (formula : DraftFormula) → option_map (option_map (with_stratum stratum)) o ≡ Some (Some formula) → formula.stratum ≡ stratum
  stratum-is None formula e = absurd (none-some (Some formula) e)
  stratum-is (Some None) formula e = absurd (none-some formula (same_Some None (Some formula) e))
  stratum-is (Some (Some was)) formula e = sym (ap (λ (f : DraftFormula). f.stratum) (same_Some (with_stratum stratum was) formula (same_Some (Some (with_stratum stratum was)) (Some formula) e)))

  -- and one field more its stratum
  pub set-given : (n : ℕ) → slice_get (all_steps models) n ≡ Some step → IsHeight models step stratum → AreGiven models old n → AreGiven models new (n + 1)
  set-given n here height given = λ k own formula lt at is. elim (same-step own step) [
    | inl same ↦ (
        let number : formula.stratum ≡ stratum = stratum-is (formula_in old step) formula (sym there ∙ ap (formula_in new) (sym same) ∙ is) in
        subst (λ (h : ℕ). IsHeight models own h) (sym number) (subst (λ (s : Step). IsHeight models s stratum) (sym same) height))
    | inr other ↦ elim (cases_lt k n) [
      | inl before ↦ given k own formula before at (sym (others own other) ∙ is)
      | inr past ↦ (let end : k ≡ n = omega arith in absurd (other (same_Some own step (sym at ∙ ap (slice_get (all_steps models)) end ∙ here))))
    ]
  ]

-- a field with a chain is there
pub chain-member : (models : List Gathered) (n : ℕ) (step : Step) → Chain models (suc n) step → (g : Gathered) × (m : Member) × IsMember models step g m
chain-member models n step (b, reads, chain) = let is = reads.0.1.1 in (is.model, is.member, is.is_member)

-- the height is the stratum where it isn't past the limit
pub height-stratum : (models : List Gathered) (step : Step) (n : ℕ) → IsHeight models step n → n ≤ max_stratum → IsStratum models step n
height-stratum models step n height low = record {
  chain = (height.each n height.low).1 (omega arith);
  longest = λ chain. omega (arith, (height.each (suc n) (omega arith)).0 chain);
}

-- the heights of nodes are those of their fields
pub height-is : (models : List Gathered) (graph : Graph) → IsGraph models graph → (heights : List ℕ) → AreHeights graph.reads.items (suc max_stratum) heights
    → (n : ℕ) (step : Step) (height : ℕ) → slice_get (all_steps models) n ≡ Some step → slice_get heights n ≡ Some height → IsHeight models step height
height-is models graph is heights are n step height here at = record {
  low = are.low n height at;
  each = λ k le. (λ chain. (are.each n height k at le).0 (nodes-of_chain models graph is k n step here chain), λ low. chain-of_nodes models graph is k n step here ((are.each n height k at le).1 low));
}
