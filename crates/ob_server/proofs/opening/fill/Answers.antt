-- A new store is filled at the clock's moment, and another one is left.
use Rattle.std.proofs.Common.{rules}
use Rattle.std.proofs.lemmas.Int.{to_z-of_z}
use mir.Syntax.{w64}
use mir.Val.{SFits}
use Rattle.ob_cache.specs.Calls.{standpoint}
use Rattle.ob_server.proofs.Filling.{filled_begins, left_begins, ok_weaker}
use Rattle.ob_server.proofs.opening.fill.Goals as goal

pub returns-in-Ok-true-clause-begins : goal.returns-in-Ok-true-clause-begins
returns-in-Ok-true-clause-begins g c =
    let fits : SFits w64 c.now.result = search rules in
    ok_weaker c.bring.result
    (filled_begins _ _ c.args.engine.now.held c.is_new.new.engine.held c.in-Ok-true.ensures.same c.args.preset.now.rows (g.C.Clock.coming c.args.clock.now) _ c.now.result _ (standpoint g.K.Keeper c.bring.new.engine) (rw c.in-Ok-true.field-0-test at c.in-Ok-true.ensures.told) (to_z-of_z _ _ fits) c.now.ensures.told c.now.ensures.rest)
    c.bring.ensures.brought

pub returns-in-Ok-false-clause-begins : goal.returns-in-Ok-false-clause-begins
returns-in-Ok-false-clause-begins g c =
    left_begins _ _ c.args.engine.now.held c.is_new.new.engine.held c.in-Ok-false.ensures.same c.args.preset.now.rows (g.C.Clock.coming c.args.clock.now) (g.C.Clock.coming c.args.clock.now) (rw c.in-Ok-false.field-0-test at c.in-Ok-false.ensures.told)
