use Rattle.std.proofs.Common.{List, length, sym, ap, subst, ◌∙◌, arith}
use Rattle.std.specs.List.{AllZip}
use Rattle.ob_definition.specs.Gathered.{Gathered}
use Rattle.ob_definition.proofs.CallerLemmas.{zip_length}
use Rattle.ob_registry.specs.declared.model.Model.{Model}
use Rattle.ob_registry.specs.Modelling.{IsModelled}
use Rattle.ob_registry.proofs.FormulaLoops.{as_few, as_many}
use Rattle.ob_registry.proofs.GraphNodes.{AreNodesUpto-more, AreNodesUpto-none, all_nodes, zip_at}
use Rattle.ob_registry.proofs.graph.Graph.new.Goals as goal

pub loop-place-init : goal.loop-place-init
loop-place-init c = record {
  nodes = AreNodesUpto-none c.args.models.now c.new.result.items c.new-2.result.items c.new.ensures.items c.new-2.ensures.items;
  none = c.new-3.ensures.items;
}

pub loop-place-preserved : goal.loop-place-preserved
loop-place-preserved c =
    let models = c.args.models.now in
    let all = subst (λ (l : List Model). AllZip (IsModelled models) models l) (sym c.deref-model-items.ensures.value)
    (subst (λ (gs : List Gathered). AllZip (IsModelled gs) gs c.models.inside.list.items) c.models.view_is c.models.invariant.each) in
    let g = zip_at (IsModelled models) models c.deref-model-items.result.now c.loop-place.place c.model-item.result all c.loop-place-test.true c.model-item.is in
    record {
      nodes = AreNodesUpto-more models c.loop-place.place c.loop-place.graph.steps.items c.loop-place.graph.starts.items g.0 c.model-item.result c.loop-place.invariant.nodes g.1 g.2
          c.number_of_place.result c.len-in-loop-place.result c.len.result c.number_of_place.ensures
          (c.len-in-loop-place.ensures ∙ c.model-item.result.members.ok.0) (c.len.ensures ∙ c.loop-place.graph.steps.ok.0)
          c.add_nodes.new.self.steps.items c.in_ok-add_nodes.ensures.steps c.add_nodes.new.self.starts.items (ap (λ v. v.items) c.in_ok-add_nodes.ensures.starts ∙ c.in_ok-push.ensures.items);
      none = ap (λ v. v.items) c.in_ok-add_nodes.ensures.reads ∙ c.loop-place.invariant.none;
    }

pub number_of_place-requires : goal.number_of_place-requires
number_of_place-requires c =
    let models = c.args.models.now in
    let many = as_many models c.models.inside.gathering.now c.models.inside.list.items c.models.invariant c.models.view_is in
    let few = as_few models c.models.inside.gathering.now c.models.inside.list.items c.models.invariant c.models.view_is in
    omega (arith, many, few, c.loop-place-test.true, ap length c.deref-model-items.ensures.value)

pub add_nodes-requires : goal.add_nodes-requires
add_nodes-requires c = omega (arith, c.len-in-loop-place.ensures ∙ c.model-item.result.members.ok.0, c.model-item.result.small)

pub add_reads-requires-clause-steps : goal.add_reads-requires-clause-steps
add_reads-requires-clause-steps c =
    let models = c.args.models.now in
    let all = subst (λ (gs : List Gathered). AllZip (IsModelled gs) gs c.models.inside.list.items) c.models.view_is c.models.invariant.each in
    let count = zip_length (IsModelled models) models c.models.inside.list.items all in
    all_nodes models c.loop-place.place c.loop-place.graph.steps.items c.loop-place.graph.starts.items c.loop-place.invariant.nodes
    (omega (arith, count, c.loop-place-test.false, ap length c.deref-model-items.ensures.value))

pub add_reads-requires-clause-starts : goal.add_reads-requires-clause-starts
add_reads-requires-clause-starts c = c.loop-place.invariant.nodes.are_starts

pub add_reads-requires-clause-none : goal.add_reads-requires-clause-none
add_reads-requires-clause-none c = c.loop-place.invariant.none
