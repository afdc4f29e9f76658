use Rattle.std.proofs.Common.{◌≡◌, List, sym, subst}
use Rattle.ob_base.specs.declared.id.ModelNo.{ModelNo}
use Rattle.ob_base.specs.declared.id.RowKey.{RowKey}
use Rattle.ob_cache.specs.Stages.{IsPlainCell}
use Rattle.ob_effect.proofs.CallSteps.{edits_none, fails, forbidden, goes_asked, goes_none, goes_noted, noted_later, starves, steps_last, unasked}
use Rattle.ob_effect.proofs.ParentLists.{parent_cell, parent_there}
use Rattle.ob_effect.proofs.Questions.{asks_edits}
use Rattle.ob_schema.specs.Models.{HasModel, IsRegistry}
use Rattle.ob_schema.specs.declared.info.ModelInfo.{ModelInfo}
use Rattle.ob_tables.proofs.CallerLemmas.{known_if}
use Rattle.ob_effect.proofs.effect.parents.change_parent.Goals as goal

pub linked_row-requires-clause-plain : goal.linked_row-requires-clause-plain
linked_row-requires-clause-plain g c =
    let held = c.args.engine.now.held.models in
    let registry = subst IsRegistry c.requires.writer.schema c.parts_fit_together.ensures in
    subst (IsPlainCell held) (sym c.cell_of-link.ensures) (parent_cell held registry c.args.row.model c.args.parent c.requires.parent)

pub linked_row-requires-clause-model : goal.linked_row-requires-clause-model
linked_row-requires-clause-model g c =
    parent_there c.args.engine.now.held.models (subst IsRegistry c.requires.writer.schema c.parts_fit_together.ensures) c.args.row.model c.args.parent c.requires.parent

pub returns-in_err-linked : goal.returns-in_err-linked
returns-in_err-linked g c =
    let a = c.args.engine.now in
    let by = c.args.writer.now.by in
    let why = c.in_err-linked.field-0.0 in
    record {
      step = fails g.K.Keeper by c.from_residual.result c.args.notes.now a c.linked_row.new.engine why c.from_residual.ensures.1
          (unasked g.K.Keeper by a a c.linked_row.new.engine why (edits_none g.K.Keeper a c.requires.usable) c.linked_row.ensures.asked c.in_err-linked.ensures.causes);
    }

pub note_dangling-requires-clause-link : goal.note_dangling-requires-clause-link
note_dangling-requires-clause-link g c =
    let held = c.args.engine.now.held.models in
    let registry = subst IsRegistry c.requires.writer.schema c.parts_fit_together.ensures in
    subst (λ (ms : List ModelInfo). IsPlainCell ms c.cell_of-link.result) (sym c.linked_row.ensures.asked.same.models)
    (subst (IsPlainCell held) (sym c.cell_of-link.ensures) (parent_cell held registry c.args.row.model c.args.parent c.requires.parent))

pub returns-in_default : goal.returns-in_default
returns-in_default g c =
    let a = c.args.engine.now in
    let b = c.linked_row.new.engine in
    let n = c.args.notes.now in
    let far = goes_asked g.K.Keeper a a b n (goes_none g.K.Keeper a n c.requires.usable c.requires.noted) c.linked_row.ensures.asked in
    record { step = steps_last g.K.Keeper c.args.writer.now.by c.note_dangling.result n c.note_dangling.new.notes a b c.note_dangling.new.engine far c.note_dangling.ensures.step }

pub note_touch-requires : goal.note_touch-requires
note_touch-requires g c =
    let held = c.args.engine.now.held.models in
    let there = parent_there held (subst IsRegistry c.requires.writer.schema c.parts_fit_together.ensures) c.args.row.model c.args.parent c.requires.parent in
    let same = known_if c.in_ok-linked.field-0 c.in-Some.linked (λ (row : RowKey). row.model ≡ c.args.parent.model) c.in-Some.is c.in_ok-linked.ensures.row in
    record { model = subst (HasModel c.args.writer.now.schema.now) (sym same) (subst (λ (ms : List ModelInfo). HasModel ms c.args.parent.model) (sym c.requires.writer.schema) there) }

pub returns-in_err-note_touch : goal.returns-in_err-note_touch
returns-in_err-note_touch g c =
    let a = c.args.engine.now in
    let b = c.linked_row.new.engine in
    let by = c.args.writer.now.by in
    let why = c.in_err-note_touch.field-0.0 in
    record {
      step = fails g.K.Keeper by c.from_residual-in_err-note_touch.result c.note_touch.new.notes a b why c.from_residual-in_err-note_touch.ensures.1
          (forbidden g.K.Keeper by a b why (asks_edits g.K.Keeper a b c.requires.usable c.linked_row.ensures.asked) c.in_err-note_touch.ensures.causes);
    }

pub returns-in_err-values : goal.returns-in_err-values
returns-in_err-values g c =
    let a = c.args.engine.now in
    let b = c.linked_row.new.engine in
    record {
      step = starves g.K.Keeper c.args.writer.now.by c.from_residual-in_err-values.result c.note_touch.new.notes a b c.from_residual-in_err-values.ensures.1
          (asks_edits g.K.Keeper a b c.requires.usable c.linked_row.ensures.asked);
    }

pub set_values-requires-clause-noted : goal.set_values-requires-clause-noted
set_values-requires-clause-noted g c =
    let a = c.args.engine.now in
    let b = c.linked_row.new.engine in
    let n = c.args.notes.now in
    let m = c.note_touch.new.notes in
    let asked = goes_asked g.K.Keeper a a b n (goes_none g.K.Keeper a n c.requires.usable c.requires.noted) c.linked_row.ensures.asked in
    noted_later g.K.Keeper a b m (goes_noted g.K.Keeper a b n m c.args.writer.now.schema.now c.requires.writer.schema asked c.in_ok-note_touch.ensures.noted)

pub set_values-requires-clause-model : goal.set_values-requires-clause-model
set_values-requires-clause-model g c =
    let held = c.args.engine.now.held.models in
    let there = parent_there held (subst IsRegistry c.requires.writer.schema c.parts_fit_together.ensures) c.args.row.model c.args.parent c.requires.parent in
    let same = known_if c.in_ok-linked.field-0 c.in-Some.linked (λ (row : RowKey). row.model ≡ c.args.parent.model) c.in-Some.is c.in_ok-linked.ensures.row in
    subst (λ (m : ModelNo). HasModel c.linked_row.new.engine.held.models m) (sym same) (subst (λ (ms : List ModelInfo). HasModel ms c.args.parent.model) (sym c.linked_row.ensures.asked.same.models) there)

pub returns : goal.returns
returns g c =
    let a = c.args.engine.now in
    let b = c.linked_row.new.engine in
    let n = c.args.notes.now in
    let m = c.note_touch.new.notes in
    let asked = goes_asked g.K.Keeper a a b n (goes_none g.K.Keeper a n c.requires.usable c.requires.noted) c.linked_row.ensures.asked in
    let far = goes_noted g.K.Keeper a b n m c.args.writer.now.schema.now c.requires.writer.schema asked c.in_ok-note_touch.ensures.noted in
    record { step = steps_last g.K.Keeper c.args.writer.now.by c.set_values.result m c.set_values.new.notes a b c.set_values.new.engine far c.set_values.ensures.step }
