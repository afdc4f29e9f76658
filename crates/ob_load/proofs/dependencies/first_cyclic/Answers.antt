use Rattle.std.proofs.Common.{◌≡◌, ◌<◌, length, arith}
use Rattle.ob_module.specs.Rooms.{modules_in}
use Rattle.ob_load.proofs.Circles.{first-cyclic, none-cyclic}
use Rattle.ob_module.proofs.CallerLemmas.{element-at}
use Rattle.ob_load.proofs.dependencies.first_cyclic.Goals as goal

pub returns-then-branch-clause-found : goal.returns-then-branch-clause-found
returns-then-branch-clause-found c =
    let modules = modules_in c.args.modules.now in
    let n = c.loop-number.number in
    let low : n < length modules = omega arith in
    let m = element-at modules n low in
    (m.0, m.1, first-cyclic modules n m.0 c.loop-number.invariant m.1 ((c.in_ok-is_cyclic.ensures m.0 m.1).0 c.if-branch.true))

pub returns-clause-none : goal.returns-clause-none
returns-clause-none c =
    let modules = modules_in c.args.modules.now in
    let all : c.loop-number.number ≡ length modules = omega arith in
    none-cyclic modules c.loop-number.number all c.loop-number.invariant
