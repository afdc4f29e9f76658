use Rattle.std.proofs.Common.{subst, sym}
use Rattle.std.specs.Prelude.{OnOk}
use Rattle.ob_cache.specs.Telling.{TellsFacts}
use Rattle.ob_orm.proofs.EditTouches.{set-model}
use Rattle.ob_orm.specs.Touches.{touch_by}
use Rattle.ob_orm.specs.TouchSteps.{Adds, is_there_by, knows_row}
use Rattle.ob_schema.specs.Facts.{OfAllTold}
use Rattle.ob_tables.specs.declared.edit.Edit.{Edit}
use Rattle.ob_orm.proofs.touching.touch.Goals as goal

pub touch_changed-requires : goal.touch_changed-requires
touch_changed-requires g c = record { model = set-model c.args.engine.now.held.models c.in-Set.cell c.in-Set.value (rw c.in-Set.is at c.requires.fit) }

pub returns-in_ok-touch_made-in-Make-clause-adds : goal.returns-in_ok-touch_made-in-Make-clause-adds
returns-in_ok-touch_made-in-Make-clause-adds g c = λ told tells.
    let old = c.args.touched.now in
    subst (λ (e : Edit). Adds (knows_row told) (touch_by (is_there_by told old) e) old c.touch_made.new.touched) (sym c.in-Make.is) (c.in_ok-touch_made-in-Make.ensures.adds (knows_row told))

pub returns-in-Set-clause-adds : goal.returns-in-Set-clause-adds
returns-in-Set-clause-adds g c =
    let old = c.args.touched.now in
    subst (λ (e : Edit). OnOk c.touch_changed.result (OfAllTold (TellsFacts (g.K.Keeper.kept c.args.engine.now.keeper.now) c.args.engine.now.held)
    (λ told. Adds (knows_row told) (touch_by (is_there_by told old) e) old c.touch_changed.new.touched))) (sym c.in-Set.is) c.touch_changed.ensures.adds

pub returns-in_ok-touch_made-in-Make-clause-within : goal.returns-in_ok-touch_made-in-Make-clause-within
returns-in_ok-touch_made-in-Make-clause-within g c = rw c.in-Make.is c.in_ok-touch_made-in-Make.ensures.within

pub returns-in-Set-clause-within : goal.returns-in-Set-clause-within
returns-in-Set-clause-within g c = rw c.in-Set.is c.touch_changed.ensures.within
