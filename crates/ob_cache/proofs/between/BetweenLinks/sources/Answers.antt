use Rattle.std.proofs.Common.{◌≡◌, List, ap, subst, sym, ◌∙◌}
use Rattle.std.proofs.lemmas.Result.{IfOk-weaker}
use Rattle.ob_change.specs.Changing.{models_of, sides_of}
use Rattle.ob_schema.specs.Facts.{OfAllTold}
use Rattle.ob_schema.specs.Links.{Leads, Sides, leading_to, tables_on}
use Rattle.ob_schema.specs.Models.{FieldHas}
use Rattle.ob_schema.specs.Tables.{Standing}
use Rattle.ob_schema.specs.declared.info.ModelInfo.{ModelInfo}
use Rattle.ob_cache.proofs.between.BetweenLinks.sources.Goals as goal

pub sources_in-requires-clause-over : goal.sources_in-requires-clause-over
sources_in-requires-clause-over c = ap (λ (s : Standing). s.models) c.tables_on-tables.ensures

pub sources_in-requires-clause-leads : goal.sources_in-requires-clause-leads
sources_in-requires-clause-leads c = subst (λ (m : List ModelInfo). FieldHas m Leads c.args.model c.args.field) (ap (λ (s : Standing). s.models) (sym c.tables_on-tables.ensures)) c.requires

pub returns-clause-sources : goal.returns-clause-sources
returns-clause-sources c =
    let change = c.args.self.now.change in
    let at = c.tables_on-tables.result.now in
    IfOk-weaker c.sources_in.result (λ ids. ids ≡ leading_to at.models at.tables c.args.model c.args.field c.args.target)
    (λ ids. OfAllTold (λ (sides : Sides). sides ≡ sides_of change) (λ sides. ids ≡ leading_to (models_of change) (tables_on sides c.args.side) c.args.model c.args.field c.args.target))
    (λ ids is sides told. is ∙ ap (λ (s : Standing). leading_to s.models s.tables c.args.model c.args.field c.args.target) c.tables_on-tables.ensures
    ∙ ap (λ (s : Sides). leading_to (models_of change) (tables_on s c.args.side) c.args.model c.args.field c.args.target) (sym told)) c.sources_in.ensures
