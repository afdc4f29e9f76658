use Rattle.std.proofs.Common.{◌≡◌, suc, ◌≤◌, Bool, true, false, Some, get_or, length, not, refl, sym, subst, ◌∙◌, arith}
use Rattle.std.specs.Prelude.{◌↔◌, IsTrue, slice_get}
use Rattle.std.proofs.lemmas.Bool.{false≢true, ltb-true}
use Rattle.std.proofs.lemmas.Option.{slice_get-get_or}
use Rattle.ob_base.specs.Limits.{max_stratum}
use Rattle.ob_definition.specs.Findings.{Tells}
use Rattle.ob_schema.specs.declared.info.Step.{Step}
use Rattle.ob_registry.specs.Graphs.{IsLongWrong, all_steps}
use Rattle.ob_schema.specs.Strata.{Chain, IsPastStrata}
use Rattle.ob_registry.proofs.AllSteps.{element_at}
use Rattle.ob_registry.proofs.ChainFaults.{long-tells}
use Rattle.ob_registry.proofs.ChainsOver.{meets-is}
use Rattle.ob_registry.proofs.GivenStrata.{IsHeight, height-is}
use Rattle.ob_registry.proofs.StepFaults.{faults-all, faults-none, faults-told}
use Rattle.ob_registry.proofs.strata.long_chains.Goals as goal
use Rattle.ob_registry.proofs.strata.long_chains.Goals.{then-height-gt-MAX_STRATUM+in_ok-is_long, else-height-gt-MAX_STRATUM}

-- what the opposite of a test answers
not-is : (r x : Bool) (P : Type 0) → r ≡ not x → IsTrue x ↔ P → IsTrue r ↔ (P → ⊥)
not-is r true P e by = (λ is. absurd (false≢true (sym e ∙ is)), λ none. absurd (none (by.0 refl)))
not-is r false P e by = (λ is p. false≢true (by.1 p), λ none. e)

pub loop-node-init : goal.loop-node-init
loop-node-init c = faults-none c.args.models.now (IsLongWrong c.args.models.now) c.args.first.now

pub loop-node-preserved : goal.loop-node-preserved
loop-node-preserved c =
    let models = c.args.models.now in
    let node = c.loop-node.node in
    let element = element_at (all_steps models) node (omega (arith, c.loop-node-test.true, c.requires.graph.count, c.requires.heights.count)) in
    let step : Step = element.0 in
    let here : slice_get (all_steps models) node ≡ Some step = element.1 in
    let is : IsHeight models step (get_or c.args.heights.now node 0) =
    height-is models c.args.graph.now c.requires.graph c.args.heights.now c.requires.heights node step (get_or c.args.heights.now node 0) here (slice_get-get_or c.args.heights.now node 0 c.loop-node-test.true) in
    let meets = meets-is models c.args.graph.now c.requires.graph c.args.on_cycles.now c.requires.cycles node step here in
    let long : IsTrue c.if-height-gt-MAX_STRATUM.is_long ↔ IsPastStrata models step = elim c.if-height-gt-MAX_STRATUM.branch [
      | then-height-gt-MAX_STRATUM+in_ok-is_long w ↦ (
          let chain : Chain models (suc max_stratum) step = (is.each (suc max_stratum) (omega arith)).1 (omega (arith, w.if-height-gt-MAX_STRATUM.true)) in
          let none = not-is _ _ _ w.is_long-is w.in_ok-is_long.ensures in
          (λ e. (chain, λ met. none.0 e (meets.1 met)), λ past. none.1 (λ met. past.1 (meets.0 met))))
      | else-height-gt-MAX_STRATUM w ↦ (
        λ e. absurd (omega (arith, ltb-true max_stratum (get_or c.args.heights.now node 0) (sym w.is_long-is ∙ e), w.if-height-gt-MAX_STRATUM.false)),
        λ past. absurd (omega (arith, (is.each (suc max_stratum) (omega arith)).0 past.0, w.if-height-gt-MAX_STRATUM.false)),
      )
    ] in
    faults-told models (IsLongWrong models) c.args.graph.now c.requires.graph node step c.then_some.result c.args.first.now c.loop-node.first c.note.new.first here
    (λ g m member. subst (Tells (IsLongWrong models step m)) (sym c.then_some.ensures) (long-tells models step m c.if-height-gt-MAX_STRATUM.is_long long))
    c.loop-node.invariant c.in_ok-note.ensures

pub returns : goal.returns
returns c =
    let past : length (all_steps c.args.models.now) ≤ c.loop-node.node = omega (arith, c.loop-node-test.false, c.requires.graph.count, c.requires.heights.count) in
    faults-all c.args.models.now (IsLongWrong c.args.models.now) c.loop-node.node c.args.first.now c.loop-node.first past c.loop-node.invariant
