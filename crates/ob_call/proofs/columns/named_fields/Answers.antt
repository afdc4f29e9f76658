use Rattle.std.proofs.Common.{option_map}
use Rattle.ob_call.specs.ArgumentsSteps.{given_of}
use Rattle.ob_schema.specs.Models.{model_at}
use Rattle.ob_call.proofs.AskedColumns.{NumbersAsked-columns, NumbersAsked-there}
use Rattle.ob_call.proofs.columns.named_fields.Goals as goal

pub returns-clause-fields : goal.returns-clause-fields
returns-clause-fields c = NumbersAsked-columns (model_at c.args.schema.now c.args.model) (option_map given_of c.args.given.now) c.numbers_given.result c.numbers_given.ensures

pub returns-clause-there : goal.returns-clause-there
returns-clause-there c = NumbersAsked-there (model_at c.args.schema.now c.args.model) (option_map given_of c.args.given.now) c.numbers_given.result c.requires c.numbers_given.ensures
