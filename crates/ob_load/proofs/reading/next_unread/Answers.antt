-- A name that was read is passed over; another is the next one.
use Rattle.std.proofs.Common.{◌≡◌, true, length, ap, arith}
use Rattle.ob_module.specs.Modules.{has_module}
use Rattle.ob_module.specs.Rooms.{modules_in}
use Rattle.ob_load.proofs.Passing.{PassedTo-more, PassedTo-none, Passes-none, Passes-some}
use Rattle.ob_load.proofs.reading.next_unread.Goals as goal

pub loop-name-init : goal.loop-name-init
loop-name-init c = PassedTo-none (modules_in c.args.modules.now) c.args.coming.now

pub returns-then-not-has-clause-passes : goal.returns-then-not-has-clause-passes
returns-then-not-has-clause-passes c = Passes-some (modules_in c.args.modules.now) c.args.coming.now c.loop-name.coming c.loop-name.invariant c.in-Some.name c.next.new.self c.in-Some.ensures.some

pub loop-name-preserved : goal.loop-name-preserved
loop-name-preserved c =
    let has : has_module (modules_in c.args.modules.now) c.in-Some.name ≡ true = cc in
    PassedTo-more (modules_in c.args.modules.now) c.args.coming.now c.loop-name.coming c.loop-name.invariant c.in-Some.name c.next.new.self c.in-Some.ensures.some has

pub loop-name-smaller : goal.loop-name-smaller
loop-name-smaller c = omega (arith, ap length c.in-Some.ensures.some)

pub returns-clause-passes : goal.returns-clause-passes
returns-clause-passes c = Passes-none (modules_in c.args.modules.now) c.args.coming.now c.loop-name.coming c.loop-name.invariant c.next.new.self c.in_default.ensures.none.0 c.in_default.ensures.none.1
