use Rattle.std.proofs.Common.{refl}
use Rattle.ob_orm.proofs.EditTouches.{ok-made, ok-made_within, set-more}
use Rattle.ob_orm.specs.declared.touching.Touched.{Touched}
use Rattle.ob_orm.proofs.touching.touch_made.Goals as goal

pub returns-clause-adds : goal.returns-clause-adds
returns-clause-adds c =
    let old = c.args.touched.now in
    let new : Touched = record { askings = c.ask.new.askings; made = c.insert.new.self; changed = old.changed } in
    ok-made c.ask.result old new c.args.row refl (set-more old.made c.insert.new.self c.args.row c.in_ok-insert.ensures.updates.0) c.ask.ensures.asked

pub returns-clause-within : goal.returns-clause-within
returns-clause-within c =
    let old = c.args.touched.now in
    let new : Touched = record { askings = c.ask.new.askings; made = c.insert.new.self; changed = old.changed } in
    ok-made_within c.ask.result old new c.args.row refl (set-more old.made c.insert.new.self c.args.row c.in_ok-insert.ensures.updates.0) c.ask.ensures.within
