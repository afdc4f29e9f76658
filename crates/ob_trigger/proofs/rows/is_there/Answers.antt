-- The row of an id leads to itself, where it is there.
use Rattle.std.proofs.Common.{◌≡◌, List, sym, subst, ◌∙◌}
use Rattle.std.specs.Prelude.{is_some}
use Rattle.ob_base.specs.declared.id.Cell.{Cell}
use Rattle.ob_schema.specs.Links.{Leads, led_to}
use Rattle.ob_schema.specs.Models.{FieldHas}
use Rattle.ob_schema.specs.Tables.{row_at}
use Rattle.ob_schema.specs.declared.info.ModelInfo.{ModelInfo}
use Rattle.ob_trigger.proofs.RowCells.{id-leads, id-led, there-by}
use Rattle.ob_trigger.proofs.rows.is_there.Goals as goal

pub targets_behind-requires : goal.targets_behind-requires
targets_behind-requires g c = subst (λ (m : List ModelInfo). FieldHas m Leads c.args.cell.model c.id_field.result) (sym c.requires.over) (id-leads c.args.schema.now c.args.cell.model c.id_field.result c.id_field.ensures)

pub returns-clause-told : goal.returns-clause-told
returns-clause-told g c = λ sides tells.
    let own : Cell = record { model = c.args.cell.model; id = c.args.cell.id; field = c.id_field.result } in
    there-by (is_some (row_at sides.behind c.args.cell.model c.args.cell.id)) c.args.cell.id c.in_ok-ids.ids c.is_empty.result
    (subst (λ (m : List ModelInfo). c.in_ok-ids.ids ≡ led_to m sides.behind own) c.requires.over (c.in_ok-ids.ensures.told sides tells) ∙ id-led c.args.schema.now sides.behind own c.id_field.ensures)
    c.is_empty.ensures.0 c.is_empty.ensures.1
