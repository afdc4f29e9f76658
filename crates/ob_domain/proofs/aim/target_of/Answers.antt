-- The registry has the model to which a relation leads.
use Rattle.std.proofs.Common.{option_and_then, ap, ◌∙◌}
use Rattle.ob_schema.specs.Models.{HasModel}
use Rattle.ob_schema.specs.declared.info.FieldInfo.{FieldInfo}
use Rattle.ob_domain.proofs.Registry.{if_some, relation_leads}
use Rattle.ob_domain.proofs.aim.target_of.Goals as goal

pub returns-clause-there : goal.returns-clause-there
returns-clause-there c =
    let at = ap (option_and_then (λ (f : FieldInfo). f.relation)) c.info.ensures in
    if_some (HasModel c.args.schema.now) c.info.result.now.relation
    (λ target leads. relation_leads c.args.schema.now c.args.at c.model_info-model.result.now target c.model_info-model.ensures.at c.model_info-model.ensures.fit (at ∙ leads))
