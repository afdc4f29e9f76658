-- A criterion is the test of its field.
use Rattle.std.proofs.Common.{◌≡◌, ◌≢◌, Err}
use Rattle.std.proofs.lemmas.Result.{err_from_is_err_and}
use Rattle.ob_domain.proofs.CriterionTests.{criterion_refused, criterion_tested, known_if}
use Rattle.ob_domain.specs.Criteria.{test_from}
use Rattle.ob_domain.specs.declared.fault.Unfit.TheVariants as unfit
use Rattle.ob_schema.specs.Models.{field_at}
use Rattle.serde_json.specs.View.{view}
use Rattle.ob_domain.proofs.criterion.criterion_of.Goals as goal

pub returns-in_err-test-clause-told : goal.returns-in_err-test-clause-told
returns-in_err-test-clause-told c =
    let models = c.args.schema.now in let at = c.args.at in let op = c.args.operator in let d = view c.args.json.now in
    let p = err_from_is_err_and c.from_residual.result c.from_residual.ensures.1 in
    let why = c.in_err-test.field-0.0 in
    rw (p.1, p.2) (λ known. criterion_refused models at c.args.sense op d why c.requires
    (known_if (field_at models at.model at.field) (why ≢ unfit.NoMemory) (λ field. test_from models at field op d ≡ Err why) c.in_err-test.ensures.told known))

pub returns-clause-told : goal.returns-clause-told
returns-clause-told c = criterion_tested c.args.schema.now c.args.at c.args.sense c.args.operator (view c.args.json.now) c.in_ok-test.test c.requires c.in_ok-test.ensures.told
