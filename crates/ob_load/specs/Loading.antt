-- What is loaded of module texts, or what stands against them first: a text or its form in the order of reading, then a circle, then the models, then a name or a value that doesn't fit.
use Rattle.std.specs.Prelude.{◌≡◌, ◌⊎◌, ℕ, ◌-◌, List, [], ◌∷◌, length, flat_map, nat_lt, codes, if◌then◌else◌, Option, Some, None, Ok, Err}
use Rattle.ob_base.specs.declared.place.PathStep.{PathStep}
use Rattle.ob_base.specs.declared.place.PathStep.TheVariants.{Key, Item}
use Rattle.ob_definition.specs.Ranking.{rank}
use Rattle.ob_definition.specs.declared.definition.ModelDef.{ModelDef}
use Rattle.ob_definition.specs.declared.fault.SchemaFault.{SchemaFault}
use Rattle.ob_schema.specs.Built.{IsBuilt}
use Rattle.ob_registry.specs.Faults.{IsFaultless, IsFirst}
use Rattle.ob_schema.specs.declared.preset.PresetRow.{PresetRow}
use Rattle.ob_schema.specs.declared.schema.Schema.{Schema}
use Rattle.ob_access.specs.Policies.{PolicyData}
use Rattle.ob_load.specs.Access.{declared_policy}
use Rattle.ob_load.specs.Dependencies.{IsCyclic, IsFirstCyclic, Takes}
use Rattle.ob_module.specs.Meaning.{models_of}
use Rattle.ob_load.specs.Preset.{declared_preset}
use Rattle.ob_module.specs.Modules.{Module, wanted}
use Rattle.ob_load.specs.Reading.{ReadsTo, whole}
use Rattle.ob_load.specs.RowFaults.{modules_fault}
use Rattle.ob_load.specs.declared.fault.FaultyModule.{FaultyModule}
use Rattle.ob_load.specs.declared.fault.ModuleFault.TheVariants as fault

-- the models of modules, one after another
abbrev pub all_models : List Module → List ModelDef
all_models modules = flat_map (λ m. models_of m.document) modules

-- the module of an entry among all models, and the entry's number in it
abbrev pub owner_of : List Module → ℕ → Option (Module × ℕ)
owner_of [] n = None
owner_of (m ∷ more) n = if nat_lt n (length (models_of m.document)) then Some (m, n) else owner_of more (n - length (models_of m.document))

-- the place of a field of a model; without a field that of the model
abbrev pub model_place : ℕ → List ℕ → List PathStep
model_place n [] = Key (codes "model") ∷ Item n ∷ []
model_place n field = Key (codes "model") ∷ Item n ∷ Key (codes "field") ∷ Key field ∷ []

module _ (text : List ℕ → Option (List ℕ)) (names : List (List ℕ)) where
  -- all texts are read, and no module depends on itself; these are the modules in the order in which they are taken
  pub record AreTaken (taken : List Module) : Type 0 where
    pub modules : List Module
    pub read : ReadsTo text [] (wanted names) (Ok modules)
    pub acyclic : (name : List ℕ) → IsCyclic modules name → ⊥
    pub order : Takes modules [] (wanted names) taken

  -- these are the modules in their order, and their models, against which nothing stands, make the registry
  pub record AreBuilt (taken : List Module) (schema : Schema) : Type 0 where
    pub are_taken : AreTaken taken
    pub built : IsBuilt (all_models taken) schema
    pub faultless : IsFaultless (all_models taken)

  -- the registry is that of their models, all names and values fit, and the policy and the preset are what they declare over it
  pub record IsLoaded (schema : Schema) (policy : PolicyData) (preset : List PresetRow) : Type 0 where
    pub taken : List Module
    pub are_built : AreBuilt taken schema
    pub fits : modules_fault schema taken ≡ None
    pub declared : policy ≡ declared_policy schema taken
    pub brought : preset ≡ declared_preset schema taken

  -- the first fault of their models, told in the module that has the entry
  pub record IsModelsFault (why : SchemaFault) (faulty : FaultyModule) : Type 0 where
    pub taken : List Module
    pub are_taken : AreTaken taken
    pub first : IsFirst (all_models taken) why
    pub owner : Module
    pub entry : ℕ
    pub owned : owner_of taken (rank why).entry ≡ Some (owner, entry)
    pub told : faulty ≡ record { name = owner.name; place = model_place entry (rank why).field; fault = fault.Schema why }

  -- the first name or value that doesn't fit
  pub record IsNamesFault (faulty : FaultyModule) : Type 0 where
    pub taken : List Module
    pub schema : Schema
    pub are_built : AreBuilt taken schema
    pub first : modules_fault schema taken ≡ Some faulty

  -- what stands against the texts first
  abbrev pub IsFirstFault : FaultyModule → Type 0
  IsFirstFault faulty = ReadsTo text [] (wanted names) (Err faulty)
      ⊎ ((modules : List Module) × ReadsTo text [] (wanted names) (Ok modules) × IsFirstCyclic modules faulty.name × (faulty ≡ whole faulty.name fault.Cycle))
      ⊎ ((why : SchemaFault) × IsModelsFault why faulty)
      ⊎ IsNamesFault faulty
