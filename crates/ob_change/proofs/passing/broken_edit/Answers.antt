-- The first test that fails tells what is broken, of a field that there is; or all of them pass.
use Rattle.std.proofs.Common.{inr, subst}
use Rattle.std.specs.Prelude.{All, IfSome}
use Rattle.ob_base.specs.declared.refusal.Broken.{Broken}
use Rattle.ob_base.specs.declared.refusal.BrokenKind.TheVariants as kind
use Rattle.ob_change.specs.Changing.{TellsBroken, models_of, sides_of}
use Rattle.ob_change.specs.Testing.{BreaksNone}
use Rattle.ob_change.specs.TreeRows.{TreesPass}
use Rattle.ob_schema.specs.Models.{HasField, IsRegistry}
use Rattle.ob_sound.specs.EditsBreak.{EditsPass, NamesGone, SharesEdited}
use Rattle.ob_change.proofs.AllTests.{all-pass, last-told}
use Rattle.ob_change.proofs.BrokenFields.{broken-field, told-field}
use Rattle.ob_change.proofs.TreeEdits.{ok_on}
use Rattle.ob_change.proofs.Turns.{none-told, one-told}
use Rattle.ob_change.proofs.passing.broken_edit.Goals as goal

pub returns-in-Some-clause-told : goal.returns-in-Some-clause-told
returns-in-Some-clause-told c =
    let models = models_of c.args.change in
    let t = c.args.change.behind.now.tables in
    subst (TellsBroken models t (All (BreaksNone models t) c.args.cells.now)) c.in-Some.is c.in_ok-broken.ensures

pub returns-in-Some-clause-field : goal.returns-in-Some-clause-field
returns-in-Some-clause-field c =
    let models = models_of c.args.change in
    let t = c.args.change.behind.now.tables in
    broken-field models t (subst IsRegistry c.args.change.behind_over c.fit_together.ensures.registry) c.in-Some.broken
    (subst (TellsBroken models t (All (BreaksNone models t) c.args.cells.now)) c.in-Some.is c.in_ok-broken.ensures)

pub returns-in-Some-2-clause-told : goal.returns-in-Some-2-clause-told
returns-in-Some-2-clause-told c =
    let models = models_of c.args.change in
    let sides = sides_of c.args.change in
    c.broken_cells_found.ensures.missing models sides c.in-Some-2.cell (inr (one-told (NamesGone models sides) _ c.in-Some-2.cell c.in-Some-2.is c.in_ok-cell.ensures))

pub returns-in-Some-2-clause-field : goal.returns-in-Some-2-clause-field
returns-in-Some-2-clause-field c =
    let models = models_of c.args.change in
    let sides = sides_of c.args.change in
    broken-field models sides.behind (subst IsRegistry c.args.change.behind_over c.fit_together.ensures.registry) (record { kind = kind.MissingRef; cell = c.in-Some-2.cell })
    (c.broken_cells_found.ensures.missing models sides c.in-Some-2.cell (inr (one-told (NamesGone models sides) _ c.in-Some-2.cell c.in-Some-2.is c.in_ok-cell.ensures)))

pub returns-in-Some-3-clause-told : goal.returns-in-Some-3-clause-told
returns-in-Some-3-clause-told c =
    let models = models_of c.args.change in
    let sides = sides_of c.args.change in
    c.broken_cells_found.ensures.unique models sides c.in-Some-3.cell (one-told (SharesEdited models sides) _ c.in-Some-3.cell c.in-Some-3.is c.in_ok-cell-2.ensures)

pub returns-in-Some-3-clause-field : goal.returns-in-Some-3-clause-field
returns-in-Some-3-clause-field c =
    let models = models_of c.args.change in
    let sides = sides_of c.args.change in
    broken-field models sides.behind (subst IsRegistry c.args.change.behind_over c.fit_together.ensures.registry) (record { kind = kind.Unique; cell = c.in-Some-3.cell })
    (c.broken_cells_found.ensures.unique models sides c.in-Some-3.cell (one-told (SharesEdited models sides) _ c.in-Some-3.cell c.in-Some-3.is c.in_ok-cell-2.ensures))

pub returns-clause-told : goal.returns-clause-told
returns-clause-told c =
    let models = models_of c.args.change in
    let sides = sides_of c.args.change in
    let pass = subst (TellsBroken models sides.behind (All (BreaksNone models sides.behind) c.args.cells.now)) c.in_default.is c.in_ok-broken.ensures in
    ok_on c.broken_tree.result (TellsBroken models sides.behind (TreesPass models sides)) (TellsBroken models sides.behind (EditsPass models sides))
    (last-told models sides.behind (TreesPass models sides) (EditsPass models sides)
    (all-pass models sides c.args.cells.now c.requires pass
    (none-told (NamesGone models sides) _ c.in_default-2.is c.in_ok-cell.ensures)
    (none-told (SharesEdited models sides) _ c.in_default-3.is c.in_ok-cell-2.ensures)))
    c.broken_tree.ensures

pub returns-clause-field : goal.returns-clause-field
returns-clause-field c =
    let models = models_of c.args.change in
    let sides = sides_of c.args.change in
    ok_on c.broken_tree.result (TellsBroken models sides.behind (TreesPass models sides)) (λ told. IfSome told (λ (broken : Broken). HasField models broken.cell.model broken.cell.field))
    (told-field models sides.behind (subst IsRegistry c.args.change.behind_over c.fit_together.ensures.registry) (TreesPass models sides)) c.broken_tree.ensures
