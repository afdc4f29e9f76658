use Rattle.std.proofs.Common.{◌≡◌, inl, inr, ℕ, suc, ◌+◌, ◌≤◌, ◌<◌, List, Some, get_or, length, sym, ap, subst, ◌∙◌, arith}
use Rattle.std.specs.Prelude.{Contains, is_some, slice_get}
use Rattle.std.proofs.lemmas.Bool.{cases_lt, false≢true}
use Rattle.std.proofs.lemmas.Option.{slice_get-get_or, slice_get_within}
use Rattle.ob_base.specs.Limits.{max_stratum}
use Rattle.ob_schema.specs.declared.info.Step.{Step}
use Rattle.ob_registry.specs.Graphs.{AreFormulas, all_steps, formula_in}
use Rattle.ob_registry.specs.ModelFields.{member_of}
use Rattle.ob_registry.specs.Telling.{IsFormulaOf}
use Rattle.ob_registry.proofs.AllSteps.{contains_at, place_of}
use Rattle.ob_registry.proofs.GivenStrata.{AreGiven, IsHeight, Rows, given-none, height-is, height-stratum, kept-given, set-formulas, set-given}
use Rattle.ob_registry.proofs.OwnFormulas.{some-formula}
use Rattle.ob_registry.proofs.Readings.{at_some}
use Rattle.ob_registry.proofs.strata.give_strata.Goals as goal
use Rattle.ob_registry.proofs.strata.give_strata.Goals.{then-is_computed, else-is_computed}

pub loop-node-init : goal.loop-node-init
loop-node-init c = record {
  are = c.requires.formulas;
  given = given-none c.args.models.now c.args.formulas.now.items;
}

pub member_at-requires : goal.member_at-requires
member_at-requires c = subst (λ (l : List Step). Contains l c.step-step.result) c.requires.graph.steps (contains_at c.args.graph.now.steps.items c.loop-node.node c.step-step.result c.step-step.ensures)

pub set_stratum-requires : goal.set_stratum-requires
set_stratum-requires c =
    let there = some-formula (IsFormulaOf (record { models = c.args.models.now; number = c.step-step.result.model; member = member_of c.member_at.result.now })) (formula_in c.loop-node.formulas.items c.step-step.result)
    (c.loop-node.invariant.are.each c.step-step.result c.member_at.ensures.there.0 (member_of c.member_at.result.now) c.member_at.ensures.there.1) in
    ap is_some there.1

pub loop-node-preserved : goal.loop-node-preserved
loop-node-preserved c =
    let models = c.args.models.now in
    let node = c.loop-node.node in
    let old = c.loop-node.formulas.items in
    let new = c.if-is_computed.formulas.items in
    let step : Step = c.step-step.result in
    let height : ℕ = get_or c.args.heights.now node 0 in
    let here : slice_get (all_steps models) node ≡ Some step = subst (λ (l : List Step). slice_get l node ≡ Some step) c.requires.graph.steps c.step-step.ensures in
    let is : IsHeight models step height =
    height-is models c.args.graph.now c.requires.graph c.args.heights.now c.requires.heights node step height here (slice_get-get_or c.args.heights.now node 0 c.loop-node-test.true) in
    let are : AreFormulas models new = elim c.if-is_computed.branch [
      | then-is_computed w ↦ subst (AreFormulas models) (sym (ap (λ v. v.items) w.formulas-is))
          (set-formulas models old w.set_stratum.new.formulas.items step height w.set_stratum.ensures.there w.set_stratum.ensures.others w.set_stratum.ensures.count c.loop-node.invariant.are)
      | else-is_computed w ↦ subst (AreFormulas models) (sym (ap (λ v. v.items) w.formulas-is)) c.loop-node.invariant.are
    ] in
    let given : AreGiven models new (node + 1) = elim c.if-is_computed.branch [
      | then-is_computed w ↦ subst (λ (f : Rows). AreGiven models f (node + 1)) (sym (ap (λ v. v.items) w.formulas-is))
          (set-given models old w.set_stratum.new.formulas.items step height w.set_stratum.ensures.there w.set_stratum.ensures.others node here is c.loop-node.invariant.given)
      | else-is_computed w ↦ subst (λ (f : Rows). AreGiven models f (node + 1)) (sym (ap (λ v. v.items) w.formulas-is))
          (kept-given models old node step here (λ formula stands.
          let of = at_some (formula_in old step) (IsFormulaOf (record { models = models; number = step.model; member = member_of c.member_at.result.now })) (Some formula) stands
          (c.loop-node.invariant.are.each step c.member_at.ensures.there.0 (member_of c.member_at.result.now) c.member_at.ensures.there.1) in
          false≢true (sym w.if-is_computed.false ∙ c.is_computed.ensures ∙ of.computed)) c.loop-node.invariant.given)
    ] in
    record { are = are; given = given }

pub returns-clause-formulas : goal.returns-clause-formulas
returns-clause-formulas c = c.loop-node.invariant.are

pub returns-clause-strata : goal.returns-clause-strata
returns-clause-strata c = λ none step formula here.
    let past : length (all_steps c.args.models.now) ≤ c.loop-node.node = omega (arith, c.requires.graph.count, c.requires.heights.count) in
    let among : Contains (all_steps c.args.models.now) step = c.loop-node.invariant.are.only step (Some formula) here in
    let node = place_of (all_steps c.args.models.now) step among in
    let within : node.0 < c.loop-node.node = omega (arith, slice_get_within (all_steps c.args.models.now) node.0 step node.1) in
    let is : IsHeight c.args.models.now step formula.stratum = c.loop-node.invariant.given node.0 step formula within node.1 here in
    elim (cases_lt max_stratum formula.stratum) [
      | inl above ↦ absurd (none step ((is.each (suc max_stratum) (omega arith)).1 (omega (arith, above))))
      | inr low ↦ height-stratum c.args.models.now step formula.stratum is low
    ]
