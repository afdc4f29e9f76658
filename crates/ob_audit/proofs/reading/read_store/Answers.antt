-- The rows that were read make tables, beside which stands what they keep for computed fields.
use Rattle.std.proofs.Common.{List, subst, sym}
use Rattle.std.specs.Prelude.{All, IfSome}
use Rattle.std.proofs.lemmas.Result.{err_from_is_err_and}
use Rattle.ob_audit.specs.Rows.{ArePlain}
use Rattle.ob_audit.specs.declared.kept_rows.ReadRows.{ReadRows}
use Rattle.ob_audit.proofs.ReadStore.{edits-fit, read-plain, read-standing, read-stored, reading-stops, tests-fit}
use Rattle.ob_schema.specs.Tables.{Fits, Standing}
use Rattle.ob_schema.specs.declared.info.ModelInfo.{ModelInfo}
use Rattle.ob_tables.specs.Fitting.{IsFitEdit}
use Rattle.ob_tables.specs.declared.edit.Edit.{Edit}
use Rattle.ob_audit.proofs.reading.read_store.Goals as goal

pub returns-in_err-empty-clause-fault : goal.returns-in_err-empty-clause-fault
returns-in_err-empty-clause-fault g c =
    let p = err_from_is_err_and c.from_residual.result c.from_residual.ensures.1 in
    rw (p.1, p.2) (reading-stops c.args.schema.now c.parts_fit_together.ensures (g.K.Keeper.kept c.args.keeper.now) _ c.in_err-empty.field-0.0 c.in_err-empty.ensures.fault)

pub after-requires : goal.after-requires
after-requires g c =
    let models = c.args.schema.now in
    let kept = g.K.Keeper.kept c.args.keeper.now in
    let none : ReadRows = record { edits = c.new.result; stored = c.new-2.result } in
    let rows = c.read_models.new.rows in
    subst (λ (m : List ModelInfo). All (IsFitEdit m) c.as_slice.result.now) (sym c.in_ok-empty.ensures.models)
    (subst (λ (l : List Edit). All (IsFitEdit models) l) (sym c.as_slice.ensures) (edits-fit models kept c.in_ok-empty.empty.tables none rows c.new.ensures c.new-2.ensures c.in_ok-empty.ensures.read))

pub returns-clause-plain : goal.returns-clause-plain
returns-clause-plain g c =
    let models = c.args.schema.now in
    let kept = g.K.Keeper.kept c.args.keeper.now in
    let none : ReadRows = record { edits = c.new.result; stored = c.new-2.result } in
    let rows = c.read_models.new.rows in
    let before = c.in_ok-empty.empty.tables in
    let read = c.in_ok-empty.ensures.read in
    let standing = read-standing models kept before none rows c.new.ensures c.new-2.ensures read c.in_ok-empty.empty.models
    c.as_slice.result.now c.in_ok-tables.tables c.in_ok-empty.ensures.models c.as_slice.ensures c.in_ok-tables.ensures in
    subst (λ (t : Standing). IfSome kept (λ store. ArePlain models store t.tables)) (sym standing)
    (read-plain models kept before none rows c.new.ensures c.new-2.ensures read c.parts_fit_together.ensures c.one_row.ensures
    (subst (λ (t : Standing). Fits t.models t.tables) standing c.fit_together.ensures.fits))

pub returns-clause-stored : goal.returns-clause-stored
returns-clause-stored g c =
    let models = c.args.schema.now in
    let kept = g.K.Keeper.kept c.args.keeper.now in
    let none : ReadRows = record { edits = c.new.result; stored = c.new-2.result } in
    read-stored models kept c.in_ok-empty.empty.tables none c.read_models.new.rows c.new.ensures c.new-2.ensures c.in_ok-empty.ensures.read c.parts_fit_together.ensures c.one_row.ensures

pub returns-clause-fit : goal.returns-clause-fit
returns-clause-fit g c =
    let models = c.args.schema.now in
    let kept = g.K.Keeper.kept c.args.keeper.now in
    let none : ReadRows = record { edits = c.new.result; stored = c.new-2.result } in
    tests-fit models kept c.in_ok-empty.empty.tables none c.read_models.new.rows c.new.ensures c.new-2.ensures c.in_ok-empty.ensures.read
