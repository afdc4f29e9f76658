use Rattle.std.proofs.Common.{◌≡◌, ◌+◌, ◌≤◌, Global, Vec, length, refl, ap, ◌∙◌, arith}
use Rattle.ob_base.specs.declared.id.RowKey.{RowKey}
use Rattle.ob_cache.specs.Standing.{max_next_id}
use Rattle.ob_effect.proofs.CallSteps.{edits_none, fails, forbidden, goes_asked, goes_kept, goes_none, goes_noted, starved, starves, unasked, unedited}
use Rattle.ob_effect.proofs.MadeRows.{noted_made, row_taken}
use Rattle.ob_effect.proofs.Questions.{asks_edits, edits_then}
use Rattle.ob_effect.proofs.rows.make_row.Goals as goal

pub returns-in_err-id-clause-step : goal.returns-in_err-id-clause-step
returns-in_err-id-clause-step g c =
    let a = c.args.engine.now in
    let by = c.args.writer.now.by in
    let why = c.in_err-id.field-0.0 in
    fails g.K.Keeper by c.from_residual.result c.args.notes.now a c.next_id.new.engine why c.from_residual.ensures.1
    (unasked g.K.Keeper by a a c.next_id.new.engine why (edits_none g.K.Keeper a c.requires.usable) c.next_id.ensures.asked c.in_err-id.ensures.causes)

pub returns-in_err-note_touch-clause-step : goal.returns-in_err-note_touch-clause-step
returns-in_err-note_touch-clause-step g c =
    let a = c.args.engine.now in
    let b = c.next_id.new.engine in
    let by = c.args.writer.now.by in
    let why = c.in_err-note_touch.field-0.0 in
    fails g.K.Keeper by c.from_residual-in_err-note_touch.result c.note_touch.new.notes a b why c.from_residual-in_err-note_touch.ensures.1
    (forbidden g.K.Keeper by a b why (asks_edits g.K.Keeper a b c.requires.usable c.next_id.ensures.asked) c.in_err-note_touch.ensures.causes)

pub returns-in_err-note_values-clause-step : goal.returns-in_err-note_values-clause-step
returns-in_err-note_values-clause-step g c =
    let a = c.args.engine.now in
    let b = c.next_id.new.engine in
    let by = c.args.writer.now.by in
    let why = c.in_err-note_values.field-0.0 in
    fails g.K.Keeper by c.from_residual-in_err-note_values.result c.note_values.new.notes a b why c.from_residual-in_err-note_values.ensures.1
    (starved g.K.Keeper by a b why (asks_edits g.K.Keeper a b c.requires.usable c.next_id.ensures.asked) c.in_err-note_values.ensures.causes)

pub returns-in_err-values-clause-step : goal.returns-in_err-values-clause-step
returns-in_err-values-clause-step g c =
    let a = c.args.engine.now in
    let b = c.next_id.new.engine in
    starves g.K.Keeper c.args.writer.now.by c.from_residual-in_err-values.result c.note_values.new.notes a b c.from_residual-in_err-values.ensures.1 (asks_edits g.K.Keeper a b c.requires.usable c.next_id.ensures.asked)

pub returns-in_err-stage_row-clause-step : goal.returns-in_err-stage_row-clause-step
returns-in_err-stage_row-clause-step g c =
    let a = c.args.engine.now in
    let b = c.next_id.new.engine in
    let by = c.args.writer.now.by in
    let why = c.in_err-stage_row.field-0.0 in
    fails g.K.Keeper by c.from_residual-in_err-stage_row.result c.note_values.new.notes a c.stage_row.new.engine why c.from_residual-in_err-stage_row.ensures.1
    (unedited g.K.Keeper by a b c.stage_row.new.engine why (asks_edits g.K.Keeper a b c.requires.usable c.next_id.ensures.asked) c.in_err-stage_row.ensures.kept c.in_err-stage_row.ensures.causes)

pub returns-clause-step : goal.returns-clause-step
returns-clause-step g c =
    let a = c.args.engine.now in
    let b = c.next_id.new.engine in
    let d = c.stage_row.new.engine in
    let n0 = c.args.notes.now in
    let n1 = c.note_touch.new.notes in
    let n2 = c.note_values.new.notes in
    let models = c.args.writer.now.schema.now in
    let over = c.requires.writer.schema in
    let row : RowKey = record { model = c.args.model; id = c.in_ok-id.id } in
    let made = c.in_ok-stage_row.ensures.made in
    let asked = goes_asked g.K.Keeper a a b n0 (goes_none g.K.Keeper a n0 c.requires.usable c.requires.noted) c.next_id.ensures.asked in
    let far = goes_kept g.K.Keeper a b n1 n2 models over (goes_noted g.K.Keeper a b n0 n1 models over asked c.in_ok-note_touch.ensures.noted) c.in_ok-note_values.ensures.noted in
    let from : max_next_id ≤ max_next_id + length n0.made.items = omega arith in
    let low = c.in_ok-id.ensures.bound (max_next_id + length n0.made.items) from c.requires.noted.next_ids in
    let is = ap (λ (v : Vec RowKey Global). v.items) c.in_ok-note_values.ensures.noted.made ∙ c.in_ok-note_touch.ensures.made in
    (edits_then g.K.Keeper a b d far.edits made.edits, noted_made g.K.Keeper a.held.models n2 n0.made.items b d row is low made far.noted)

pub returns-clause-taken : goal.returns-clause-taken
returns-clause-taken g c =
    row_taken g.K.Keeper c.args.engine.now c.next_id.new.engine c.stage_row.new.engine (record { model = c.args.model; id = c.in_ok-id.id }) c.args.model c.in_ok-id.id refl
    c.next_id.ensures.asked c.in_ok-id.ensures.next c.in_ok-stage_row.ensures.made
