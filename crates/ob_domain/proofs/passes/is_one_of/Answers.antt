-- A list that names rows is asked by them.
use Rattle.std.proofs.Common.{◌∙◌}
use Rattle.std.proofs.lemmas.Bool.{both_ways}
use Rattle.ob_domain.proofs.Tested.{named_one}
use Rattle.ob_domain.proofs.passes.is_one_of.Goals as goal

pub returns-in-Refs : goal.returns-in-Refs
returns-in-Refs c = rw c.in-Refs.is (c.names_one_of.ensures
    ∙ named_one c.args.operands.now c.args.user c.in-Refs.ids (λ e. both_ways c.is_empty.result c.if-not-is_empty.true (c.is_empty.ensures.1 e)))
