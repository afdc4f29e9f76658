use Rattle.std.proofs.Common.{◌≡◌, List, Some, true, sym, subst}
use Rattle.ob_base.specs.declared.id.FieldNo.{FieldNo}
use Rattle.ob_base.specs.declared.id.Cell.{Cell}
use Rattle.ob_base.specs.declared.id.ModelNo.{ModelNo}
use Rattle.ob_base.specs.declared.id.RowKey.{RowKey}
use Rattle.ob_cache.specs.Stages.{IsPlainCell}
use Rattle.ob_effect.proofs.ParentLists.{link_given, own_list, parent_list, parent_model}
use Rattle.ob_effect.specs.Cells.{cell_at}
use Rattle.ob_effect.specs.Lists.{IsListField}
use Rattle.ob_definition.specs.Types.{is_list}
use Rattle.ob_schema.specs.Models.{FieldHas, HasModel, field_at}
use Rattle.ob_schema.specs.declared.info.FieldInfo.{FieldInfo}
use Rattle.ob_schema.specs.declared.info.ModelInfo.{ModelInfo}
use Rattle.ob_tables.proofs.CallerLemmas.{known_at, known_if}
use Rattle.ob_effect.proofs.effect.listed.meant_list.Goals as goal

-- the field is a list, by what is required of it
is_one : (models held : List ModelInfo) (row : RowKey) (field : FieldNo) (f : FieldInfo) → models ≡ held → FieldHas held (λ info. is_list info.field_type ≡ true) row.model field → field_at models row.model field ≡ Some f
    → is_list f.field_type ≡ true
is_one models held row field f over has at =
    let own = subst (λ (ms : List ModelInfo). FieldHas ms (λ info. is_list info.field_type ≡ true) row.model field) (sym over) has in
    known_at (field_at models row.model field) f (λ info. is_list info.field_type ≡ true) at own

pub linked_row-requires-clause-plain : goal.linked_row-requires-clause-plain
linked_row-requires-clause-plain g c =
    let own = link_given c.args.writer.now.schema.now c.parts_fit_together.ensures c.args.row.model c.args.orders.now.field c.info.result.now c.info.ensures c.in-Delegated.at c.in-Delegated.is in
    subst (IsPlainCell c.args.engine.now.held.models) (sym c.cell_of.ensures) (subst (λ (ms : List ModelInfo). IsPlainCell ms (cell_at c.args.row c.in-Delegated.at.link)) c.requires.over own)

pub linked_row-requires-clause-model : goal.linked_row-requires-clause-model
linked_row-requires-clause-model g c =
    subst (λ (ms : List ModelInfo). HasModel ms c.in-Delegated.at.model) c.requires.over
    (parent_model c.args.writer.now.schema.now c.parts_fit_together.ensures c.args.row.model c.args.orders.now.field c.info.result.now c.info.ensures c.in-Delegated.at c.in-Delegated.is)

pub returns-in-Some-clause-list : goal.returns-in-Some-clause-list
returns-in-Some-clause-list g c =
    let models = c.args.writer.now.schema.now in
    let held = c.args.engine.now.held.models in
    let to = c.in-Delegated.at in
    let list = is_one models held c.args.row c.args.orders.now.field c.info.result.now c.requires.over c.requires.field c.info.ensures in
    let own = parent_list models c.parts_fit_together.ensures c.args.row.model c.args.orders.now.field c.info.result.now c.info.ensures to c.in-Delegated.is list in
    let same = known_if c.in_ok-parent-in-Delegated.field-0 c.in-Some.parent (λ (row : RowKey). row.model ≡ to.model) c.in-Some.is c.in_ok-parent-in-Delegated.ensures.row in
    let here = subst (λ (m : ModelNo). IsListField held m to.field) (sym same) (subst (λ (ms : List ModelInfo). IsListField ms to.model to.field) c.requires.over own) in
    subst (λ (cell : Cell). IsListField held cell.model cell.field) (sym c.cell_of-in-Some.ensures) here

pub returns-in_default-clause-list : goal.returns-in_default-clause-list
returns-in_default-clause-list g c =
    let models = c.args.writer.now.schema.now in
    let held = c.args.engine.now.held.models in
    let field = c.args.orders.now.field in
    let list = is_one models held c.args.row field c.info.result.now c.requires.over c.requires.field c.info.ensures in
    let own = own_list models c.parts_fit_together.ensures c.args.row.model field c.info.result.now c.info.ensures list (λ to is. c.in_default.not-Delegated to is) in
    subst (λ (cell : Cell). IsListField held cell.model cell.field) (sym c.cell_of-in_default.ensures) (subst (λ (ms : List ModelInfo). IsListField ms c.args.row.model field) c.requires.over own)
