use Rattle.std.proofs.Common.{◌≡◌, true}
use Rattle.ob_cache.proofs.Inserting.{insert-keeps, insert-right}
use Rattle.ob_schema.specs.Models.{field_at, is_computed_from}
use Rattle.ob_schema.specs.declared.info.FieldInfo.{FieldInfo}
use Rattle.ob_tables.proofs.CallerLemmas.{there_is, told_and}
use Rattle.ob_cache.proofs.whole.add_value.Goals as goal

pub returns-clause-right : goal.returns-clause-right
returns-clause-right c =
    insert-right c.cell_cmp-order.ensures.exact c.args.values.now c.insert.new.self c.args.cell c.in_ok-value.value c.in_ok-insert.ensures.updates.0
    c.args.source.now.models c.args.source.now.tables (c.requires.row, c.requires.field) c.in_ok-value.ensures.value c.requires.right

pub returns-clause-kept : goal.returns-clause-kept
returns-clause-kept c = insert-keeps c.cell_cmp-order.ensures.exact c.args.values.now c.insert.new.self c.args.cell c.in_ok-value.value c.in_ok-insert.ensures.updates.0

pub value_in-requires-clause-field : goal.value_in-requires-clause-field
value_in-requires-clause-field c =
    let s = c.args.source.now in
    let cell = c.args.cell in
    let info = told_and (field_at s.models cell.model cell.field) (λ (i : FieldInfo). is_computed_from i.origin ≡ true) c.requires.field in
    there_is (field_at s.models cell.model cell.field) info.0 info.1
