-- Each item is the row of its id.
use Rattle.std.proofs.Common.{◌≡◌, [], Ok, drop, refl, arith}
use Rattle.std.proofs.lemmas.Grind.{common_steps}
use Rattle.std.proofs.lemmas.Result.{err_from_is_err_and}
use Rattle.ob_domain.proofs.Each.{IsEachTo-all, IsEachTo-more, IsEachTo-none, IsEachTo-stop}
use Rattle.ob_domain.specs.Operands.{node_from}
use Rattle.ob_domain.specs.declared.term.Operand.TheVariants as operand
use Rattle.serde_json.specs.View.{view}
use Rattle.ob_domain.proofs.operand.ids_of.Goals as goal

pub loop-item-init : goal.loop-item-init
loop-item-init c = let new = c.new-nodes.ensures in rw new (IsEachTo-none node_from c.args.items.now)

pub loop-item-preserved : goal.loop-item-preserved
loop-item-preserved c =
    let value = c.in_ok-id_of.field-0 in let told = c.in_ok-id_of.ensures in
    let one : node_from (view c.item-item.result) ≡ Ok (operand.Value value) = rw told refl in
    let pushed = c.in_ok-push.ensures.ok in
    rw pushed (IsEachTo-more node_from c.args.items.now c.loop-item.item-index c.loop-item.nodes c.item-item.result (operand.Value value) c.loop-item-test.true c.item-item.is one c.loop-item.invariant)

pub returns-in_err-id_of : goal.returns-in_err-id_of
returns-in_err-id_of c =
    let p = err_from_is_err_and c.from_residual.result c.from_residual.ensures.1 in
    rw (p.1, p.2) (λ known.
    let told = c.in_err-id_of.ensures known in
    IsEachTo-stop node_from c.args.items.now c.loop-item.item-index c.loop-item.nodes c.item-item.result _ c.loop-item-test.true c.item-item.is (rw told refl) c.loop-item.invariant)

pub returns : goal.returns
returns c =
    let end : drop c.loop-item.item-index c.args.items.now ≡ [] = grind (arith, common_steps) in
    IsEachTo-all node_from c.args.items.now c.loop-item.item-index c.loop-item.nodes end c.loop-item.invariant
