use Rattle.std.proofs.Common.{ℕ, subst}
use Rattle.ob_audit.specs.Comparing.{LineBy}
use Rattle.ob_audit.specs.Report.{field_name, model_name}
use Rattle.ob_audit.proofs.Telling.{adds-told, none-told}
use Rattle.ob_audit.proofs.comparing.add_field.Goals as goal

pub returns-clause-told : goal.returns-clause-told
returns-clause-told c =
    let models = c.args.schema.now in
    let at = c.args.at in
    let found = c.in_ok-found.found in
    adds-told c.add.result c.args.values.now c.args.stored.now models at found c.is_none.result c.in_ok-line.line c.args.report.now c.add.new.self c.requires.models c.requires.field c.in_ok-found.ensures.found
    (subst (λ (rows : ℕ). LineBy (model_name models at.model) (field_name models at.model at.field) rows found c.in_ok-line.line) c.requires.rows c.in_ok-line.ensures)
    (none-told found c.is_none.result c.is_none.ensures) c.add.ensures.lines c.add.ensures.equal
