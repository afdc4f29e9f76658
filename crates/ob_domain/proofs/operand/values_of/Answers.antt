-- Each item is an operand of its value.
use Rattle.std.proofs.Common.{◌≡◌, [], Ok, drop, refl, arith}
use Rattle.std.proofs.lemmas.Grind.{common_steps}
use Rattle.std.proofs.lemmas.Result.{err_from_is_err_and}
use Rattle.ob_domain.proofs.Each.{IsEachTo-all, IsEachTo-more, IsEachTo-none, IsEachTo-stop}
use Rattle.ob_domain.specs.Operands.{item_from}
use Rattle.ob_domain.specs.declared.term.Operand.TheVariants as operand
use Rattle.serde_json.specs.View.{view}
use Rattle.ob_domain.proofs.operand.values_of.Goals as goal

pub loop-item-init : goal.loop-item-init
loop-item-init c = let new = c.new-operands.ensures in rw new (IsEachTo-none (item_from c.args.field.now) c.args.items.now)

pub loop-item-preserved : goal.loop-item-preserved
loop-item-preserved c =
    let value = c.in_ok-value.value in let told = c.in_ok-value.ensures in
    let one : item_from c.args.field.now (view c.item-item.result) ≡ Ok (operand.Value value) = rw told refl in
    let pushed = c.in_ok-push.ensures.ok in
    rw pushed (IsEachTo-more (item_from c.args.field.now) c.args.items.now c.loop-item.item-index c.loop-item.operands c.item-item.result (operand.Value value) c.loop-item-test.true c.item-item.is one c.loop-item.invariant)

pub returns-in_err-value : goal.returns-in_err-value
returns-in_err-value c =
    let p = err_from_is_err_and c.from_residual.result c.from_residual.ensures.1 in
    rw (p.1, p.2) (λ known.
    let told = c.in_err-value.ensures known in
    IsEachTo-stop (item_from c.args.field.now) c.args.items.now c.loop-item.item-index c.loop-item.operands c.item-item.result _ c.loop-item-test.true c.item-item.is (rw told refl) c.loop-item.invariant)

pub returns : goal.returns
returns c =
    let end : drop c.loop-item.item-index c.args.items.now ≡ [] = grind (arith, common_steps) in
    IsEachTo-all (item_from c.args.field.now) c.args.items.now c.loop-item.item-index c.loop-item.operands end c.loop-item.invariant
