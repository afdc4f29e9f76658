use Rattle.std.proofs.Common.{◌≡◌, [], drop, arith}
use Rattle.std.proofs.lemmas.Grind.{common_steps}
use Rattle.std.proofs.lemmas.Result.{err_from_is_err_and}
use Rattle.ob_codec.proofs.Reading.{IsPassedTo-none, IsPassedTo-more, IsPassedTo-stop, IsPassedTo-all}
use Rattle.ob_codec.proofs.commands.clear_from.Goals as goal

pub loop-number-init : goal.loop-number-init
loop-number-init c = IsPassedTo-none c.args.command c.args.elements.now

pub loop-number-preserved : goal.loop-number-preserved
loop-number-preserved c =
    IsPassedTo-more c.args.command c.args.elements.now c.loop-number.number c.index-elements-number.result c.loop-number-test.true c.index-elements-number.is c.in_ok-ignored.ensures c.loop-number.invariant

pub returns-in_err-ignored : goal.returns-in_err-ignored
returns-in_err-ignored c =
    let p = err_from_is_err_and c.from_residual.result c.from_residual.ensures.1 in
    rw (p.1, p.2) (λ known. IsPassedTo-stop c.args.command c.args.elements.now c.loop-number.number c.index-elements-number.result _ c.loop-number-test.true c.index-elements-number.is (c.in_err-ignored.ensures known)
    c.loop-number.invariant)

pub returns : goal.returns
returns c =
    let end : drop c.loop-number.number c.args.elements.now ≡ [] = grind (arith, common_steps) in
    IsPassedTo-all c.args.command c.args.elements.now c.loop-number.number end c.loop-number.invariant
