use Rattle.ob_base.specs.Limits.{max_fields}
use Rattle.ob_tables.proofs.Asked.{fit_apart, low_numbers}
use Rattle.ob_tables.proofs.fitting.are_fit_in.Goals as goal

pub are_apart-requires : goal.are_apart-requires
are_apart-requires c =
    let model = c.model_info.ensures.fit in
    low_numbers c.args.schema.now c.args.model c.model_info.result.now c.model_info.ensures.at c.args.values.now max_fields model.few model.conditions (c.are_of_fields.ensures.0 c.if-are_of_fields.true)

pub returns-then-are_of_fields : goal.returns-then-are_of_fields
returns-then-are_of_fields c =
    let told = fit_apart c.args.schema.now c.args.model c.model_info.result.now c.model_info.ensures.at c.args.values.now in
    (λ apart. told.0 (c.are_of_fields.ensures.0 c.if-are_of_fields.true, c.are_apart.ensures.0 apart), λ fit. c.are_apart.ensures.1 (told.1 fit).1)

pub returns-else-are_of_fields : goal.returns-else-are_of_fields
returns-else-are_of_fields c =
    let told = fit_apart c.args.schema.now c.args.model c.model_info.result.now c.model_info.ensures.at c.args.values.now in
    (λ own. absurd cc, λ fit. c.are_of_fields.ensures.1 (told.1 fit).0)
