-- The model is found by its name, or is told there.
use Rattle.std.proofs.Common.{◌≡◌, [], ◌∷◌, None, sym, ap, ◌∙◌}
use Rattle.std.specs.Prelude.{codes}
use Rattle.toml.specs.View.{view}
use Rattle.ob_base.specs.declared.place.PathStep.TheVariants.{Key}
use Rattle.ob_module.specs.Meaning.{word_at}
use Rattle.ob_load.specs.AccessFaults.{model_is_there}
use Rattle.ob_load.specs.declared.fault.LoadFault.TheVariants as load
use Rattle.ob_load.proofs.AccessForms.{entry-told}
use Rattle.ob_load.proofs.EntryParts.{model-missing}
use Rattle.ob_load.proofs.Told.{err_is}
use Rattle.ob_load.proofs.scope.Scope.model_of.Goals as goal
use Rattle.ob_schema.specs.Models.{model_named}

pub returns-in-Some-clause-named : goal.returns-in-Some-clause-named
returns-in-Some-clause-named c = ap (model_named c.args.self.now.schema.now) (sym c.word_at.ensures) ∙ sym c.in-Some.ensures.named

pub returns-in-None-clause-fault : goal.returns-in-None-clause-fault
returns-in-None-clause-fault c = λ faulty same.
    let models = c.args.self.now.schema.now in
    let d = view c.args.entry.value.now in
    let none : model_named models (word_at (codes "model") d) ≡ None = ap (model_named models) (sym c.word_at.ensures) ∙ sym c.in-None.ensures.named in
    entry-told c.args.self.now.owner.now c.args.entry.table.now c.args.entry.number (model_is_there models d) (Key (codes "model") ∷ []) c.refused_key.result faulty (model-missing models d none)
    c.refused_key.ensures.told (err_is c.refused_key.result (load.Module faulty) same)
