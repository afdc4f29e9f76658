use Rattle.std.proofs.Common.{◌∙◌}
use Rattle.ob_rows.proofs.CallerLemmas.{settable_by_name}
use Rattle.ob_orm.proofs.creating.given.is_given.Goals as goal

pub returns-in-Some : goal.returns-in-Some
returns-in-Some c =
    c.is_settable.ensures ∙ settable_by_name c.args.schema.now c.args.model c.args.name.now c.in-Some.number c.info.result.now c.in-Some.ensures.named c.info.ensures
