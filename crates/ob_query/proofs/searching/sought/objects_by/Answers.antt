use Rattle.std.proofs.Common.{option_map}
use Rattle.ob_call.specs.ArgumentsSteps.{given_of}
use Rattle.ob_call.specs.Called.{called_by}
use Rattle.ob_query.proofs.SearchReadAnswers.{objects_joined}
use Rattle.ob_query.specs.SearchForms.{sought_in}
use Rattle.ob_query.specs.SearchParts.{sought_view}
use Rattle.ob_schema.specs.Models.{model_at}
use Rattle.ob_query.proofs.searching.sought.objects_by.Goals as goal

pub returns-clause-asked : goal.returns-clause-asked
returns-clause-asked c =
    let models = c.args.schema.now in
    let call = c.args.call.now in
    let given = c.args.arguments in
    objects_joined (model_at models call.model) (sought_view c.in_ok-sought.sought)
    (λ info. sought_in models (called_by call info) (option_map given_of given.domain) (option_map given_of given.offset) (option_map given_of given.limit) (option_map given_of given.order)) c.in_ok-fields.fields.items
    (option_map given_of c.args.fields) c.in_ok-sought.ensures.sought c.in_ok-fields.ensures.fields
