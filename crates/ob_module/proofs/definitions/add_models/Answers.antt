use Rattle.std.proofs.Common.{◌++◌, map, take, codes, List, refl, ap, ◌∙◌, arith}
use Rattle.ob_definition.specs.declared.definition.ModelDef.{ModelDef}
use Rattle.toml.specs.Data.{table}
use Rattle.toml.specs.View.{table_view, view}
use Rattle.ob_module.specs.Meaning.{items_at, model_from}
use Rattle.ob_module.proofs.Documents.{map-whole}
use Rattle.ob_module.proofs.definitions.add_models.Goals as goal

pub returns : goal.returns
returns c =
    let items = c.listed_at-model-items.result.now in
    let seen = items_at (codes "model") (table (table_view c.args.document.now)) in
    let made = map (λ model. model_from (view model)) (take c.loop-model.model-index items) in
    c.loop-model.invariant ∙ ap (λ (added : List ModelDef). c.args.models.now ++ added) (map-whole model_from view items seen c.loop-model.model-index made refl (omega arith) c.listed_at-model-items.ensures)
