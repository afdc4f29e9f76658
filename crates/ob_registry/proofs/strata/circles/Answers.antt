use Rattle.std.proofs.Common.{◌≡◌, suc, ◌+◌, ◌≤◌, Some, get_or, length, sym, subst, ◌∙◌, arith}
use Rattle.std.specs.Prelude.{◌↔◌, IsTrue, slice_get}
use Rattle.std.proofs.lemmas.Bool.{ltb-true}
use Rattle.std.proofs.lemmas.Option.{slice_get-get_or}
use Rattle.ob_base.specs.Limits.{max_stratum}
use Rattle.ob_definition.specs.Findings.{Tells}
use Rattle.ob_schema.specs.declared.info.Step.{Step}
use Rattle.ob_schema.specs.Chains.{Reaches}
use Rattle.ob_registry.specs.Graphs.{IsCycleWrong, NodeReads, all_steps}
use Rattle.ob_schema.specs.Strata.{IsOnCycle, ReadsAnother}
use Rattle.ob_registry.proofs.AllSteps.{element_at}
use Rattle.ob_registry.proofs.ChainFaults.{cycle-tells}
use Rattle.ob_registry.proofs.ChainsOver.{cycle-is}
use Rattle.ob_registry.proofs.CircleMarks.{AreMarked, AreMarked-more, AreMarked-none, AreOnCycles-marked}
use Rattle.ob_registry.proofs.Circles.{HasChain-from_circle}
use Rattle.ob_registry.proofs.GivenStrata.{IsHeight, height-is}
use Rattle.ob_registry.proofs.StepFaults.{faults-all, faults-none, faults-told}
use Rattle.ob_registry.proofs.strata.circles.Goals as goal
use Rattle.ob_registry.proofs.strata.circles.Goals.{then-height-gt-MAX_STRATUM+in_ok-is_on, else-height-gt-MAX_STRATUM}

pub loop-node-init : goal.loop-node-init
loop-node-init c = record {
  marked = AreMarked-none (λ a. Reaches (NodeReads c.args.graph.now.reads.items) a a) c.new-marks.result.items c.new-marks.ensures.items;
  faults = faults-none c.args.models.now (IsCycleWrong c.args.models.now) c.args.first.now;
}

pub loop-node-preserved : goal.loop-node-preserved
loop-node-preserved c =
    let models = c.args.models.now in
    let node = c.loop-node.node in
    let reads = c.args.graph.now.reads.items in
    let element = element_at (all_steps models) node (omega (arith, c.loop-node-test.true, c.requires.graph.count, c.requires.heights.count)) in
    let step : Step = element.0 in
    let here : slice_get (all_steps models) node ≡ Some step = element.1 in
    let is : IsHeight models step (get_or c.args.heights.now node 0) =
    height-is models c.args.graph.now c.requires.graph c.args.heights.now c.requires.heights node step (get_or c.args.heights.now node 0) here (slice_get-get_or c.args.heights.now node 0 c.loop-node-test.true) in
    let cycle : Reaches (NodeReads reads) node node ↔ IsOnCycle models step = cycle-is models c.args.graph.now c.requires.graph node step here in
    let on : IsTrue c.if-height-gt-MAX_STRATUM.is_on ↔ Reaches (NodeReads reads) node node = elim c.if-height-gt-MAX_STRATUM.branch [
      | then-height-gt-MAX_STRATUM+in_ok-is_on w ↦ (λ e. w.in_ok-is_on.ensures.0 (sym w.is_on-is ∙ e), λ way. w.is_on-is ∙ w.in_ok-is_on.ensures.1 way)
      | else-height-gt-MAX_STRATUM w ↦ (
        λ e. absurd (omega (arith, ltb-true max_stratum (get_or c.args.heights.now node 0) (sym w.is_on-is ∙ e), w.if-height-gt-MAX_STRATUM.false)),
        λ way. absurd (omega (arith, (is.each (suc max_stratum) (omega arith)).0 (HasChain-from_circle (ReadsAnother models) step (cycle.0 way) (suc max_stratum)), w.if-height-gt-MAX_STRATUM.false)),
      )
    ] in
    record {
      marked = subst (AreMarked (λ a. Reaches (NodeReads reads) a a) (node + 1)) (sym c.in_ok-push.ensures.items)
          (AreMarked-more (λ a. Reaches (NodeReads reads) a a) node c.loop-node.marks.items c.if-height-gt-MAX_STRATUM.is_on c.loop-node.invariant.marked on);
      faults = faults-told models (IsCycleWrong models) c.args.graph.now c.requires.graph node step c.then_some.result c.args.first.now c.loop-node.first c.note.new.first here
          (λ g m member. subst (Tells (IsCycleWrong models step m)) (sym c.then_some.ensures)
          (cycle-tells models step m c.if-height-gt-MAX_STRATUM.is_on (λ e. cycle.0 (on.0 e), λ circle. on.1 (cycle.1 circle))))
          c.loop-node.invariant.faults c.in_ok-note.ensures;
    }

pub returns-clause-cycles : goal.returns-clause-cycles
returns-clause-cycles c =
    let all : c.loop-node.node ≡ length c.args.graph.now.reads.items = omega (arith, c.loop-node-test.false, c.loop-node.auto.node-end, c.requires.heights.count) in
    AreOnCycles-marked c.args.graph.now.reads.items c.loop-node.node c.loop-node.marks.items all c.loop-node.invariant.marked

pub returns-clause-faults : goal.returns-clause-faults
returns-clause-faults c =
    let past : length (all_steps c.args.models.now) ≤ c.loop-node.node = omega (arith, c.loop-node-test.false, c.requires.graph.count, c.requires.heights.count) in
    faults-all c.args.models.now (IsCycleWrong c.args.models.now) c.loop-node.node c.args.first.now c.loop-node.first past c.loop-node.invariant.faults
