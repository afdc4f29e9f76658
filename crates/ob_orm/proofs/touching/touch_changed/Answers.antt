use Rattle.std.proofs.Common.{◌≡◌, refl, sym, true, false, ◌∙◌}
use Rattle.ob_orm.proofs.EditTouches.{adds-changed, adds-made_changed, or-left, or-right, set-more, within-changed, within-asked}
use Rattle.ob_rows.specs.RowSets.{has_key}
use Rattle.ob_orm.specs.TouchSteps.{is_there_by, knows_row}
use Rattle.ob_orm.proofs.touching.touch_changed.Goals as goal
use Rattle.ob_orm.proofs.touching.touch_changed.Goals.{then-branch+in_ok-insert, else-branch+else-not-contains}

pub returns-clause-adds : goal.returns-clause-adds
returns-clause-adds g c = λ told tells.
    let old = c.args.touched.now in
    let row = c.args.row in
    let was = c.in_ok-was_there.ensures.told told tells in
    elim c.if-branch.branch [
      | then-branch+in_ok-insert w ↦ (
          let known : knows_row told row ≡ true = sym was ∙ w.if-branch.true in
          rw w.touched-is (adds-changed (knows_row told) old _ row (is_there_by told old) known (or-left (knows_row told row) (has_key old.made row) known)
          (rw w.touched-is at c.in_ok-ask.ensures.asked) refl (set-more old.changed w.insert.new.self row w.in_ok-insert.ensures.updates.0)))
      | else-branch+else-not-contains w ↦ (
          let unknown : knows_row told row ≡ false = sym was ∙ w.if-branch.false in
          let held : has_key old.made row ≡ true = sym w.contains.ensures ∙ w.if-not-contains.false in
          rw w.touched-is (adds-made_changed (knows_row told) old _ row (is_there_by told old) unknown (or-right (knows_row told row) (has_key old.made row) held)
          (rw w.touched-is at c.in_ok-ask.ensures.asked) refl refl))
    ]

pub returns-clause-within : goal.returns-clause-within
returns-clause-within g c = λ may is within.
    let old = c.args.touched.now in
    let row = c.args.row in
    elim c.if-branch.branch [
      | then-branch+in_ok-insert w ↦
          rw w.touched-is (within-changed may old _ row within is ((rw w.touched-is at c.in_ok-ask.ensures.within) may is within.askings) refl (set-more old.changed w.insert.new.self row w.in_ok-insert.ensures.updates.0))
      | else-branch+else-not-contains w ↦
          rw w.touched-is (within-asked may old _ row within ((rw w.touched-is at c.in_ok-ask.ensures.within) may is within.askings) refl refl)
    ]
