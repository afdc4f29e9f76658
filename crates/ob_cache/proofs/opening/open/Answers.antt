-- The rows that were read make tables; where these are sound, and what is stored is right, the store keeps them.
use Rattle.std.proofs.Common.{◌≡◌, ◌∙◌, List, Ok, ap, subst, sym}
use Rattle.std.specs.Prelude.{All, IfSome}
use Rattle.std.proofs.lemmas.Result.{err_from_is_err_and}
use Rattle.ob_base.specs.declared.id.Cell.{Cell}
use Rattle.ob_base.specs.declared.value.Value.{Value}
use Rattle.ob_cache.specs.Kept.{Kept}
use Rattle.ob_cache.specs.Opening.{ShowsField}
use Rattle.ob_cache.specs.Reading.{DiffersAmong}
use Rattle.ob_cache.specs.Rooms.{ShowsUnsound}
use Rattle.ob_cache.specs.Standing.{FitNextIds}
use Rattle.ob_cache.specs.declared.kept_rows.ReadRows.{ReadRows}
use Rattle.ob_cache.proofs.Opened.{IsOfField, all-kept, all-readable, broken-stops, differs-stops, edits-fit, next-fit, opened, opened-standing, reading-stops, tests-fit}
use Rattle.ob_schema.specs.Broken.{AreSound, IsFirstBroken}
use Rattle.ob_schema.specs.Tables.{Fits, Standing}
use Rattle.ob_schema.specs.Val.{val}
use Rattle.ob_schema.specs.declared.info.ModelInfo.{ModelInfo}
use Rattle.ob_tables.specs.Fitting.{IsFitEdit}
use Rattle.ob_tables.specs.declared.edit.Edit.{Edit}
use Rattle.ob_cache.proofs.opening.open.Goals as goal

pub returns-in_err-empty-clause-fault : goal.returns-in_err-empty-clause-fault
returns-in_err-empty-clause-fault g c =
    let p = err_from_is_err_and c.from_residual.result c.from_residual.ensures.1 in
    let models = c.args.schema.now in
    let readable = all-readable models c.parts_fit_together.ensures c.constants_are_native.ensures c.sound_values.ensures.valued c.sound_values.ensures.typed in
    rw (p.1, p.2) (reading-stops models c.parts_fit_together.ensures readable c.one_row.ensures (g.K.Keeper.kept c.args.keeper.now) _ c.in_err-empty.field-0.0 c.in_err-empty.ensures.fault)

pub after-requires : goal.after-requires
after-requires g c =
    let models = c.args.schema.now in
    let kept = g.K.Keeper.kept c.args.keeper.now in
    let none : ReadRows = record { edits = c.new.result; stored = c.new-2.result } in
    let rows = c.read_models.new.rows in
    let before = c.in_ok-empty.empty.tables in
    let read = c.in_ok-empty.ensures.read in
    subst (λ (m : List ModelInfo). All (IsFitEdit m) c.as_slice.result.now) (sym c.in_ok-empty.ensures.models)
    (subst (λ (l : List Edit). All (IsFitEdit models) l) (sym c.as_slice.ensures) (edits-fit models kept before none rows c.new.ensures c.new-2.ensures read))

pub returns-in-Err-Broken-clause-fault : goal.returns-in-Err-Broken-clause-fault
returns-in-Err-Broken-clause-fault g c =
    let models = c.args.schema.now in
    let kept = g.K.Keeper.kept c.args.keeper.now in
    let none : ReadRows = record { edits = c.new.result; stored = c.new-2.result } in
    let rows = c.read_models.new.rows in
    let before = c.in_ok-empty.empty.tables in
    let read = c.in_ok-empty.ensures.read in
    let standing = opened-standing models kept before none rows c.new.ensures c.new-2.ensures read c.in_ok-empty.empty.models
    c.as_slice.result.now c.in_ok-tables.tables c.in_ok-empty.ensures.models c.as_slice.ensures c.in_ok-tables.ensures in
    let readable = all-readable models c.parts_fit_together.ensures c.constants_are_native.ensures c.sound_values.ensures.valued c.sound_values.ensures.typed in
    let broken = c.in-Err-Broken.broken in
    broken-stops models kept before none rows c.new.ensures c.new-2.ensures read c.parts_fit_together.ensures readable c.one_row.ensures
    (subst (λ (t : Standing). Fits t.models t.tables) standing c.fit_together.ensures.fits) broken
    (subst (λ (t : Standing). IsFirstBroken t.models t.tables broken) standing (subst (ShowsUnsound c.in_ok-tables.tables) c.in-Err-Broken.field-0-is c.in-Err-Broken.ensures.fault))

pub test_stored-requires : goal.test_stored-requires
test_stored-requires g c =
    let models = c.args.schema.now in
    let kept = g.K.Keeper.kept c.args.keeper.now in
    let none : ReadRows = record { edits = c.new.result; stored = c.new-2.result } in
    let rows = c.read_models.new.rows in
    let before = c.in_ok-empty.empty.tables in
    let read = c.in_ok-empty.ensures.read in
    let standing = opened-standing models kept before none rows c.new.ensures c.new-2.ensures read c.in_ok-empty.empty.models
    c.as_slice.result.now c.in_ok-tables.tables c.in_ok-empty.ensures.models c.as_slice.ensures c.in_ok-tables.ensures in
    let whole_is = c.in-Ok.ensures.whole ∙ standing in
    subst (λ (m : List ModelInfo). All (IsOfField m) c.as_slice-2.result.now) (sym (ap (λ (t : Standing). t.models) whole_is))
    (subst (λ (l : List (Cell × Value)). All (IsOfField models) l) (sym c.as_slice-2.ensures) (tests-fit models kept before none rows c.new.ensures c.new-2.ensures read))

pub returns-in_err-test_stored-clause-fault : goal.returns-in_err-test_stored-clause-fault
returns-in_err-test_stored-clause-fault g c =
    let p = err_from_is_err_and c.from_residual-in_err-test_stored.result c.from_residual-in_err-test_stored.ensures.1 in
    let models = c.args.schema.now in
    let kept = g.K.Keeper.kept c.args.keeper.now in
    let none : ReadRows = record { edits = c.new.result; stored = c.new-2.result } in
    let rows = c.read_models.new.rows in
    let before = c.in_ok-empty.empty.tables in
    let read = c.in_ok-empty.ensures.read in
    let standing = opened-standing models kept before none rows c.new.ensures c.new-2.ensures read c.in_ok-empty.empty.models
    c.as_slice.result.now c.in_ok-tables.tables c.in_ok-empty.ensures.models c.as_slice.ensures c.in_ok-tables.ensures in
    let readable = all-readable models c.parts_fit_together.ensures c.constants_are_native.ensures c.sound_values.ensures.valued c.sound_values.ensures.typed in
    let whole_is = c.in-Ok.ensures.whole ∙ standing in
    let sound : AreSound models (opened models kept before none rows c.new.ensures c.new-2.ensures read) = subst (λ (t : Standing). AreSound t.models t.tables) standing c.in-Ok.ensures.sound in
    let fault = c.in_err-test_stored.field-0.0 in
    let differs = subst (λ (l : List (Cell × Value)). DiffersAmong c.in-Ok.whole l fault) c.as_slice-2.ensures c.in_err-test_stored.ensures.fault in
    rw (p.1, p.2) (differs-stops models kept before none rows c.new.ensures c.new-2.ensures read c.parts_fit_together.ensures readable c.one_row.ensures sound _ fault
    (subst (λ (t : Standing). DiffersAmong t rows.stored fault) whole_is differs))

pub returns-in_err-test_stored-clause-field : goal.returns-in_err-test_stored-clause-field
returns-in_err-test_stored-clause-field g c =
    let p = err_from_is_err_and c.from_residual-in_err-test_stored.result c.from_residual-in_err-test_stored.ensures.1 in
    let models_are = ap (λ (t : Standing). t.models) (c.in-Ok.ensures.whole ∙ c.in_ok-tables.ensures) ∙ c.in_ok-empty.ensures.models in
    rw (p.1, p.2) (subst (λ (m : List ModelInfo). ShowsField m c.in_err-test_stored.field-0.0) models_are c.in_err-test_stored.ensures.field)

pub returns-clause-kept : goal.returns-clause-kept
returns-clause-kept g c =
    let models = c.args.schema.now in
    let kept = g.K.Keeper.kept c.args.keeper.now in
    let none : ReadRows = record { edits = c.new.result; stored = c.new-2.result } in
    let rows = c.read_models.new.rows in
    let before = c.in_ok-empty.empty.tables in
    let read = c.in_ok-empty.ensures.read in
    let standing = opened-standing models kept before none rows c.new.ensures c.new-2.ensures read c.in_ok-empty.empty.models
    c.as_slice.result.now c.in_ok-tables.tables c.in_ok-empty.ensures.models c.as_slice.ensures c.in_ok-tables.ensures in
    let readable = all-readable models c.parts_fit_together.ensures c.constants_are_native.ensures c.sound_values.ensures.valued c.sound_values.ensures.typed in
    let whole_is = c.in-Ok.ensures.whole ∙ standing in
    let sound : AreSound models (opened models kept before none rows c.new.ensures c.new-2.ensures read) = subst (λ (t : Standing). AreSound t.models t.tables) standing c.in-Ok.ensures.sound in
    let tested = subst (λ (l : List (Cell × Value)). All (λ s. val c.in-Ok.whole.models c.in-Ok.whole.tables s.0 ≡ Ok s.1) l) c.as_slice-2.ensures c.in_ok-test_stored.ensures.tested in
    subst (λ (t : Standing). IfSome kept (Kept t.models t.tables)) (sym whole_is)
    (all-kept models kept before none rows c.new.ensures c.new-2.ensures read c.parts_fit_together.ensures readable c.one_row.ensures sound
    (subst (λ (t : Standing). All (λ s. val t.models t.tables s.0 ≡ Ok s.1) rows.stored) whole_is tested))

pub returns-clause-next_ids : goal.returns-clause-next_ids
returns-clause-next_ids g c =
    let models = c.args.schema.now in
    let kept = g.K.Keeper.kept c.args.keeper.now in
    let none : ReadRows = record { edits = c.new.result; stored = c.new-2.result } in
    let rows = c.read_models.new.rows in
    let before = c.in_ok-empty.empty.tables in
    let read = c.in_ok-empty.ensures.read in
    let standing = opened-standing models kept before none rows c.new.ensures c.new-2.ensures read c.in_ok-empty.empty.models
    c.as_slice.result.now c.in_ok-tables.tables c.in_ok-empty.ensures.models c.as_slice.ensures c.in_ok-tables.ensures in
    let whole_is = c.in-Ok.ensures.whole ∙ standing in
    subst (λ (t : Standing). FitNextIds models t.tables) (sym whole_is) (next-fit models kept before none rows c.new.ensures c.new-2.ensures read)
