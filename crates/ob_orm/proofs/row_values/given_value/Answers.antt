use Rattle.std.proofs.Common.{◌++◌, ◌∷◌, [], subst}
use Rattle.serde_json.specs.View.{view}
use Rattle.ob_base.specs.declared.place.PathStep.TheVariants.{Key}
use Rattle.ob_schema.specs.Models.{field_at}
use Rattle.ob_orm.specs.CreateSteps.{IsFaultAt}
use Rattle.ob_orm.specs.ObjectSteps.{object_place}
use Rattle.ob_orm.proofs.RowValue.{GivesInput, no_commands, value_read, value_refused}
use Rattle.ob_orm.proofs.row_values.given_value.Goals as goal

pub unreachable-requires : goal.unreachable-requires
unreachable-requires c =
    let o = field_at c.args.schema.now c.args.model c.args.number in
    let d = view c.args.json.now in
    no_commands o c.info.result.now d c.in-Ok-Commands.field-0-0 c.info.ensures c.requires.no_list
    (subst (GivesInput o d) c.in-Ok-Commands.field-0-is c.in-Ok-Commands.ensures.given)

pub returns-in-Ok-Plain-clause-value : goal.returns-in-Ok-Plain-clause-value
returns-in-Ok-Plain-clause-value c =
    let o = field_at c.args.schema.now c.args.model c.args.number in
    let d = view c.args.json.now in
    rw c.in-Ok-Plain.value-is (value_read o c.info.result.now d (λ field. object_place c.args.object ++ Key field.name ∷ []) c.in-Ok-Plain.value c.info.ensures
    (subst (GivesInput o d) c.in-Ok-Plain.field-0-is c.in-Ok-Plain.ensures.given))

pub returns-in-Err-clause-value : goal.returns-in-Err-clause-value
returns-in-Err-clause-value c =
    let o = field_at c.args.schema.now c.args.model c.args.number in
    let d = view c.args.json.now in
    value_refused o c.info.result.now d (λ field. object_place c.args.object ++ Key field.name ∷ []) c.in-Err.fault c.fault_refusal.result c.info.ensures c.requires.no_list c.in-Err.ensures.fault
    (subst (λ name. IsFaultAt (object_place c.args.object ++ Key name ∷ []) c.in-Err.fault c.fault_refusal.result) c.as_str-name.ensures c.fault_refusal.ensures)
