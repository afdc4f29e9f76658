use Rattle.std.proofs.Common.{◌≡◌, ◌≤◌, List, Some, length, sym, ap, subst, arith}
use Rattle.std.specs.Prelude.{slice_get}
use Rattle.ob_definition.specs.Findings.{Tells}
use Rattle.ob_definition.specs.Members.{Member}
use Rattle.ob_schema.specs.declared.info.Step.{Step}
use Rattle.ob_registry.specs.Graphs.{IsSelfWrong, all_steps}
use Rattle.ob_registry.proofs.StepFaults.{faults-all, faults-none, faults-told}
use Rattle.ob_registry.proofs.strata.self_readers.Goals as goal

pub loop-node-init : goal.loop-node-init
loop-node-init c = faults-none c.args.models.now (IsSelfWrong c.args.models.now) c.args.first.now

pub loop-node-preserved : goal.loop-node-preserved
loop-node-preserved c =
    let here : slice_get (all_steps c.args.models.now) c.loop-node.node ≡ Some c.step-step.result =
    subst (λ (l : List Step). slice_get l c.loop-node.node ≡ Some c.step-step.result) c.requires.graph.steps c.step-step.ensures in
    faults-told c.args.models.now (IsSelfWrong c.args.models.now) c.args.graph.now c.requires.graph c.loop-node.node c.step-step.result c.wrong_itself-wrong.result
    c.args.first.now c.loop-node.first c.note.new.first here
    (λ g m is. subst (λ (x : Member). Tells (IsSelfWrong c.args.models.now c.step-step.result x) c.wrong_itself-wrong.result) (sym (c.member_at.ensures.single g m is)) c.wrong_itself-wrong.ensures)
    c.loop-node.invariant c.in_ok-note.ensures

pub returns : goal.returns
returns c =
    let past : length (all_steps c.args.models.now) ≤ c.loop-node.node = omega (arith, ap length c.requires.graph.steps, c.len-node-end.ensures) in
    faults-all c.args.models.now (IsSelfWrong c.args.models.now) c.loop-node.node c.args.first.now c.loop-node.first past c.loop-node.invariant
