-- The field back that a key names, and a delegated field, by the models that the program has.
use Rattle.std.proofs.Common.{◌≡◌, ℕ, List, Option, Some, None, refl, sym, ap, ◌∙◌}
use Rattle.std.specs.Prelude.{IsSomeAnd, option_and_then}
use Rattle.ob_base.specs.declared.id.ModelNo.{ModelNo}
use Rattle.ob_definition.specs.declared.definition.FieldDef.{FieldDef}
use Rattle.ob_definition.specs.Gathered.{Gathered}
use Rattle.ob_definition.specs.Members.{model_at, number_named}
use Rattle.ob_registry.specs.declared.model.Model.{Model as KeptModel}
use Rattle.ob_schema.specs.Finds.{relation_of}
use Rattle.ob_registry.specs.ModelFields.{named_in, number_in}
use Rattle.ob_registry.specs.Modelling.{IsModelled, named_back}
use Rattle.ob_registry.proofs.NamedFields.{number_modelled}

-- the number that the model of a relation has for a name is that of the field back
pub named_back-found : (models : List Gathered) (f : FieldDef) (key : Option (List ℕ)) (name : List ℕ) (target : ModelNo) (model : KeptModel)
    → key ≡ Some name → relation_of models f ≡ Some target → IsSomeAnd (model_at models target.0) (λ g. IsModelled models g model)
    → number_in (named_in model.named model.members.items) name ≡ named_back models f key
named_back-found models f key name target model given leads there = by (model_at models target.0) refl there
  where
    by : (o : Option Gathered) → model_at models target.0 ≡ o → IsSomeAnd o (λ g. IsModelled models g model) → number_in (named_in model.named model.members.items) name ≡ named_back models f key
    by None at none = absurd none
    by (Some g) at is =
        number_modelled models g model is name
        ∙ ap (λ (o : Option Gathered). option_and_then (λ g. number_named models g name) o) (sym at)
        ∙ ap (λ (o : Option ModelNo). option_and_then (λ target. option_and_then (λ g. number_named models g name) (model_at models target.0)) o) (sym leads)
        ∙ ap (λ (o : Option (List ℕ)). option_and_then (λ name. option_and_then (λ target. option_and_then (λ g. number_named models g name) (model_at models target.0)) (relation_of models f)) o) (sym given)
