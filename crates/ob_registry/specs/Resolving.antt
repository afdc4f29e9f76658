-- Private: what is found of models behind their entries.
use Rattle.std.specs.Prelude.{◌≤◌, ◌⊎◌, All, List, length}
use Rattle.ob_base.specs.Limits.{max_checks, max_models, max_name_bytes}
use Rattle.ob_definition.specs.declared.fault.SchemaFault.{SchemaFault}
use Rattle.ob_definition.specs.Gathered.{Gathered}
use Rattle.ob_definition.specs.Making.{AreMadeFaults}
use Rattle.ob_registry.specs.Graphs.{IsChainWrong, IsStepFault}
use Rattle.ob_registry.specs.Telling.{AreFormulaFaults, AreKeyFaults}

-- models, the name and the checks of each, are within limits
pub record AreFew (models : List Gathered) : Type 0 where
  pub few : length models ≤ max_models
  pub short_names : All (λ g. length g.name ≤ max_name_bytes) models
  pub few_checks : All (λ g. length g.checks ≤ max_checks) models

-- and nothing stands against the fields that are made for them
pub record IsEntered (models : List Gathered) : Type 0 where
  pub limits : AreFew models
  pub made : (why : SchemaFault) → AreMadeFaults models models why → ⊥

-- the faults of keys, of expressions, and of how fields read one another
abbrev pub AreResolvingFaults : List Gathered → SchemaFault → Type 0
AreResolvingFaults models why = AreKeyFaults models why ⊎ AreFormulaFaults models why ⊎ IsStepFault models (IsChainWrong models) why

-- and of fields that are made
abbrev pub AreModelFaults : List Gathered → SchemaFault → Type 0
AreModelFaults models why = AreMadeFaults models models why ⊎ AreResolvingFaults models why
