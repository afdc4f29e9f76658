use Rattle.std.proofs.Common.{◌≡◌, ◌∷◌, [], drop, arith}
use Rattle.std.proofs.lemmas.Grind.{common_steps}
use Rattle.std.proofs.lemmas.Result.{err_from_is_err_and}
use Rattle.ob_codec.specs.Commands.{id_of_json}
use Rattle.ob_codec.proofs.Reading.{IsReadTo-none, IsReadTo-more, IsReadTo-stop, IsReadTo-all}
use Rattle.ob_codec.proofs.elements.ids_from.Goals as goal

pub loop-number-init : goal.loop-number-init
loop-number-init c =
    let none = c.new-ids.ensures in
    rw none (IsReadTo-none (λ n. id_of_json (c.args.command ∷ c.args.k ∷ n ∷ [])) c.args.items.now)

pub loop-number-preserved : goal.loop-number-preserved
loop-number-preserved c =
    let pushed = c.in_ok-push.ensures.ok in
    rw pushed (IsReadTo-more _ c.args.items.now c.loop-number.number c.loop-number.ids c.index-items-number.result c.in_ok-id_of_json.field-0 c.loop-number-test.true c.index-items-number.is c.in_ok-id_of_json.ensures
    c.loop-number.invariant)

pub returns-in_err-id_of_json : goal.returns-in_err-id_of_json
returns-in_err-id_of_json c =
    let p = err_from_is_err_and c.from_residual.result c.from_residual.ensures.1 in
    rw (p.1, p.2) (λ known. IsReadTo-stop _ c.args.items.now c.loop-number.number c.loop-number.ids c.index-items-number.result _ c.loop-number-test.true c.index-items-number.is (c.in_err-id_of_json.ensures known) c.loop-number.invariant)

pub returns : goal.returns
returns c =
    let end : drop c.loop-number.number c.args.items.now ≡ [] = grind (arith, common_steps) in
    IsReadTo-all _ c.args.items.now c.loop-number.number c.loop-number.ids end c.loop-number.invariant
