use Rattle.std.proofs.Common.{◌≡◌, ◌∷◌, [], ◌++◌, drop, ap, ◌∙◌, arith}
use Rattle.std.specs.Prelude.{map}
use Rattle.std.proofs.lemmas.Grind.{common_steps}
use Rattle.std.proofs.lemmas.List.{map-append}
use Rattle.std.proofs.lemmas.Result.{err_from_is_err_and}
use Rattle.ob_codec.specs.Commands.{order_at}
use Rattle.ob_codec.specs.Input.{order_of}
use Rattle.ob_codec.proofs.Reading.{IsReadTo-none, IsReadTo-more, IsReadTo-stop, IsReadTo-all}
use Rattle.ob_codec.proofs.commands.commands_from.Goals as goal

pub loop-number-init : goal.loop-number-init
loop-number-init c =
    let none = c.new-commands.ensures in
    rw none (IsReadTo-none order_at c.args.items.now)

pub loop-number-preserved : goal.loop-number-preserved
loop-number-preserved c =
    let done = c.loop-number.commands in let command = c.in_ok-command_at.field-0 in
    let pushed : map order_of c.push.new.self ≡ map order_of done ++ order_of command ∷ [] =
    ap (map order_of) c.in_ok-push.ensures.ok ∙ map-append order_of done (command ∷ []) in
    rw pushed (IsReadTo-more order_at c.args.items.now c.loop-number.number (map order_of done) c.index-items-number.result (order_of command) c.loop-number-test.true c.index-items-number.is c.in_ok-command_at.ensures
    c.loop-number.invariant)

pub returns-in_err-command_at : goal.returns-in_err-command_at
returns-in_err-command_at c =
    let p = err_from_is_err_and c.from_residual.result c.from_residual.ensures.1 in
    rw (p.1, p.2) (λ known. IsReadTo-stop order_at c.args.items.now c.loop-number.number (map order_of c.loop-number.commands) c.index-items-number.result _ c.loop-number-test.true c.index-items-number.is
    (c.in_err-command_at.ensures known) c.loop-number.invariant)

pub returns : goal.returns
returns c =
    let end : drop c.loop-number.number c.args.items.now ≡ [] = grind (arith, common_steps) in
    IsReadTo-all order_at c.args.items.now c.loop-number.number (map order_of c.loop-number.commands) end c.loop-number.invariant
