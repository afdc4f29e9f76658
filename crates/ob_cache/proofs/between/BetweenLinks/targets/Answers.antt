use Rattle.std.proofs.Common.{◌≡◌, List, ap, subst, sym, ◌∙◌}
use Rattle.std.proofs.lemmas.Result.{IfOk-weaker}
use Rattle.ob_change.specs.Changing.{models_of, sides_of}
use Rattle.ob_schema.specs.Facts.{OfAllTold}
use Rattle.ob_schema.specs.Links.{Leads, Sides, led_to, tables_on}
use Rattle.ob_schema.specs.Models.{FieldHas}
use Rattle.ob_schema.specs.Tables.{Standing}
use Rattle.ob_schema.specs.declared.info.ModelInfo.{ModelInfo}
use Rattle.ob_cache.proofs.between.BetweenLinks.targets.Goals as goal

pub targets_in-requires-clause-over : goal.targets_in-requires-clause-over
targets_in-requires-clause-over c = ap (λ (s : Standing). s.models) c.tables_on-tables.ensures

pub targets_in-requires-clause-leads : goal.targets_in-requires-clause-leads
targets_in-requires-clause-leads c = subst (λ (m : List ModelInfo). FieldHas m Leads c.args.cell.model c.args.cell.field) (ap (λ (s : Standing). s.models) (sym c.tables_on-tables.ensures)) c.requires

pub returns-clause-targets : goal.returns-clause-targets
returns-clause-targets c =
    let change = c.args.self.now.change in
    let at = c.tables_on-tables.result.now in
    IfOk-weaker c.targets_in.result (λ ids. ids ≡ led_to at.models at.tables c.args.cell)
    (λ ids. OfAllTold (λ (sides : Sides). sides ≡ sides_of change) (λ sides. ids ≡ led_to (models_of change) (tables_on sides c.args.side) c.args.cell))
    (λ ids is sides told. is ∙ ap (λ (s : Standing). led_to s.models s.tables c.args.cell) c.tables_on-tables.ensures
    ∙ ap (λ (s : Sides). led_to (models_of change) (tables_on s c.args.side) c.args.cell) (sym told)) c.targets_in.ensures
