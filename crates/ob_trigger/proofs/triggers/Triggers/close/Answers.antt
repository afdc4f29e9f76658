-- What is marked, and is there behind the change.
use Rattle.std.proofs.Common.{◌⊎◌, ◌↔◌, List, sym, subst, ◌∙◌}
use Rattle.std.specs.Prelude.{All, Contains, IsSome}
use Rattle.std.proofs.lemmas.Result.{err_from_is_err_and}
use Rattle.ob_base.specs.declared.id.Cell.{Cell}
use Rattle.ob_schema.specs.Facts.{asked-then}
use Rattle.ob_schema.specs.Models.{HasModel, IsRegistry}
use Rattle.ob_schema.specs.Tables.{row_at}
use Rattle.ob_schema.specs.declared.info.ModelInfo.{ModelInfo}
use Rattle.ob_trigger.specs.Affected.{Affected, HasComputedField}
use Rattle.ob_trigger.specs.Marks.{IsInEditedRow, HasMark}
use Rattle.ob_trigger.proofs.Asking.{fault_behind}
use Rattle.ob_trigger.proofs.Closing.{AreLaws, all_affected, all_computed, changed_given, listed_computed}
use Rattle.ob_trigger.proofs.RowCells.{models_there}
use Rattle.ob_trigger.proofs.triggers.Triggers.close.Goals as goal

pub there_behind-requires-clause-over : goal.there_behind-requires-clause-over
there_behind-requires-clause-over g c = c.reached.ensures.stays.same ∙ c.requires ∙ sym c.self.view_is

pub there_behind-requires-clause-models : goal.there_behind-requires-clause-models
there_behind-requires-clause-models g c =
    let all = c.mark_edited_rows.new.marked in
    let rows = subst (λ (m : List ModelInfo). (cell : Cell) → HasMark all cell ↔ (HasMark c.in_ok-marked.marked cell ⊎ IsInEditedRow m c.args.edited.now cell)) c.self.view_is c.in_ok-mark_edited_rows.ensures in
    subst (λ (m : List ModelInfo). All (λ cell. HasModel m cell.model) c.as_slice.result.now) (sym c.self.view_is)
    (models_there c.args.self.now c.as_slice.result.now
    (listed_computed c.args.self.now c.args.edited.now c.in_ok-marked.marked all c.as_slice.result.now (c.as_slice.ensures.value ∙ c.in_ok-cells.ensures) c.in_ok-marked.ensures.computed rows))

pub returns-clause-affected : goal.returns-clause-affected
returns-clause-affected g c = λ sides tells change.
    let models = c.args.self.now in
    let registry = subst IsRegistry c.self.view_is c.parts_fit_together.ensures in
    let laws : AreLaws models = record { registry = registry; lacks = c.reads_along_paths.ensures.lacks; means = c.meaning_by_declared_paths.ensures models registry } in
    let all = c.mark_edited_rows.new.marked in
    let rows = subst (λ (m : List ModelInfo). (cell : Cell) → HasMark all cell ↔ (HasMark c.in_ok-marked.marked cell ⊎ IsInEditedRow m c.args.edited.now cell)) c.self.view_is c.in_ok-mark_edited_rows.ensures in
    let listed = c.as_slice.ensures.value ∙ c.in_ok-cells.ensures in
    let behind = subst (λ (l : List Cell). (cell : Cell) → HasMark c.in_ok-there.there cell ↔ (Contains l cell × IsSome (row_at sides.behind cell.model cell.id))) listed
    (c.in_ok-there.ensures.told sides (c.reached.ensures.stays.kept sides tells)) in
    subst (All (Affected models sides)) (sym c.in_ok-of.ensures)
    (all_affected models sides laws c.args.edited.now change c.in_ok-marked.marked all c.in_ok-there.there (c.in_ok-marked.ensures.told sides tells) c.in_ok-marked.ensures.computed rows behind)

pub returns-clause-changed : goal.returns-clause-changed
returns-clause-changed g c = λ sides tells change cell changes.
    let models = c.args.self.now in
    let registry = subst IsRegistry c.self.view_is c.parts_fit_together.ensures in
    let laws : AreLaws models = record { registry = registry; lacks = c.reads_along_paths.ensures.lacks; means = c.meaning_by_declared_paths.ensures models registry } in
    let all = c.mark_edited_rows.new.marked in
    let rows = subst (λ (m : List ModelInfo). (cell : Cell) → HasMark all cell ↔ (HasMark c.in_ok-marked.marked cell ⊎ IsInEditedRow m c.args.edited.now cell)) c.self.view_is c.in_ok-mark_edited_rows.ensures in
    let listed = c.as_slice.ensures.value ∙ c.in_ok-cells.ensures in
    let behind = subst (λ (l : List Cell). (cell : Cell) → HasMark c.in_ok-there.there cell ↔ (Contains l cell × IsSome (row_at sides.behind cell.model cell.id))) listed
    (c.in_ok-there.ensures.told sides (c.reached.ensures.stays.kept sides tells)) in
    subst (λ (l : List Cell). Contains l cell) (sym c.in_ok-of.ensures)
    (changed_given models sides laws c.args.edited.now change c.in_ok-marked.marked all c.in_ok-there.there (c.in_ok-marked.ensures.told sides tells) c.in_ok-marked.ensures.computed rows behind cell changes)

pub returns-clause-computed : goal.returns-clause-computed
returns-clause-computed g c =
    let all = c.mark_edited_rows.new.marked in
    let rows = subst (λ (m : List ModelInfo). (cell : Cell) → HasMark all cell ↔ (HasMark c.in_ok-marked.marked cell ⊎ IsInEditedRow m c.args.edited.now cell)) c.self.view_is c.in_ok-mark_edited_rows.ensures in
    let listed = c.as_slice.ensures.value ∙ c.in_ok-cells.ensures in
    let among = subst (λ (l : List Cell). (cell : Cell) → HasMark c.in_ok-there.there cell → Contains l cell) listed c.in_ok-there.ensures.among in
    subst (All (HasComputedField c.args.self.now)) (sym c.in_ok-of.ensures) (all_computed c.args.self.now c.args.edited.now c.in_ok-marked.marked all c.in_ok-there.there c.in_ok-marked.ensures.computed rows among)

pub returns-in_err-there-clause-fault : goal.returns-in_err-there-clause-fault
returns-in_err-there-clause-fault g c =
    let p = err_from_is_err_and c.from_residual-in_err-there.result c.from_residual-in_err-there.ensures.1 in
    rw (p.1, p.2) (fault_behind g.W.Links.has_failed _ _ c.there_behind.new.worlds c.in_err-there.field-0.0 c.reached.ensures.stays.asked c.in_err-there.ensures.fault)

pub returns-in_err-there-clause-asked : goal.returns-in_err-there-clause-asked
returns-in_err-there-clause-asked g c = asked-then _ _ _ c.reached.ensures.stays.asked c.there_behind.ensures.stays.asked

pub returns-in_err-of-clause-asked : goal.returns-in_err-of-clause-asked
returns-in_err-of-clause-asked g c = asked-then _ _ _ c.reached.ensures.stays.asked c.there_behind.ensures.stays.asked

pub returns-clause-asked : goal.returns-clause-asked
returns-clause-asked g c = asked-then _ _ _ c.reached.ensures.stays.asked c.there_behind.ensures.stays.asked
