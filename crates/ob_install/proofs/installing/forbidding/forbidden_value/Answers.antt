use Rattle.std.proofs.Common.{◌∙◌, sym}
use Rattle.std.proofs.lemmas.Option.{none-some}
use Rattle.ob_install.proofs.ForbiddenRows.{none-given}
use Rattle.ob_install.proofs.GivenCells.{gives-info}
use Rattle.ob_install.proofs.installing.forbidding.forbidden_value.Goals as goal
use Rattle.ob_install.specs.Install.{GivesFor}
use Rattle.ob_install.specs.InstallSteps.{course_of}

pub forbidden_at-requires-clause-field : goal.forbidden_at-requires-clause-field
forbidden_at-requires-clause-field c =
    gives-info c.args.maker.now.schema.now c.args.placed.now c.args.number c.args.model c.args.field c.own_info-info.result.now c.in-Some.cell c.own_info-info.ensures ((c.in_ok-cell.ensures c.in-Some.cell).0 c.in-Some.is)

pub returns-in-None : goal.returns-in-None
returns-in-None c =
    let models = c.args.maker.now.schema.now in
    let at = course_of models c.args.placed.now in
    none-given models at (GivesFor models at c.args.number c.args.model c.args.field) c.args.number (λ cell gives. none-some cell (sym c.in-None.is ∙ (c.in_ok-cell.ensures cell).1 gives))
