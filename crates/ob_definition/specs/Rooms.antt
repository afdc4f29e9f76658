-- Private: the faults that each room of the program tells.
use Rattle.std.specs.Prelude.{◌≡◌, ◌<◌, ◌≤◌, ◌⊎◌, ℕ, List, [], length, true, is_none, is_some, None, IsSomeAnd}
use Rattle.ob_base.specs.Limits.{max_checks, max_models}
use Rattle.ob_definition.specs.declared.definition.Check.{Check}
use Rattle.ob_definition.specs.declared.definition.FieldDef.{FieldDef}
use Rattle.ob_definition.specs.declared.definition.ModelDef.{ModelDef}
use Rattle.ob_definition.specs.declared.fault.SchemaFault.{SchemaFault}
use Rattle.ob_definition.specs.declared.fault.SchemaFault.TheVariants as fault
use Rattle.ob_definition.specs.declared.fault.Spot.{Spot}
use Rattle.ob_definition.specs.EntryFaults.{IsCheckTwice, IsFieldTwice}
use Rattle.ob_definition.specs.Gathered.{Declared, DeclaredCheck, Gathered, added, begun, model_of}
use Rattle.ob_definition.specs.Members.{check_name}

abbrev pub spot_at : ℕ → List ℕ → Spot
spot_at n field = record { entry = n; field = field }

-- of fields that an entry adds in turn, one is declared twice
abbrev pub IsFieldTwiceFault : ℕ → List Declared → List FieldDef → SchemaFault → Type 0
IsFieldTwiceFault n fields defs why = (name : List ℕ) × IsFieldTwice n fields defs name × (why ≡ fault.Twice (spot_at n name))

-- of checks, likewise
abbrev pub IsCheckTwiceFault : ℕ → List DeclaredCheck → List Check → SchemaFault → Type 0
IsCheckTwiceFault n checks given why = (name : List ℕ) × IsCheckTwice n checks given name × (why ≡ fault.Twice (spot_at n (check_name name)))

-- what an entry adds to a model has this fault
abbrev pub IsAdditionFault : ℕ → ModelDef → Gathered → SchemaFault → Type 0
IsAdditionFault n def model why =
    IsFieldTwiceFault n model.fields def.fields why ⊎ IsCheckTwiceFault n model.checks def.checks why
    ⊎ ((max_checks < length (added n def model).checks) × (why ≡ fault.Limit (spot_at n [])))

-- an entry that extends a model
abbrev pub IsExtensionFault : List Gathered → ℕ → ModelDef → List ℕ → SchemaFault → Type 0
IsExtensionFault models n def base why =
    ((model_of models base ≡ None) × (why ≡ fault.Model (spot_at n []))) ⊎ IsSomeAnd (model_of models base) (λ model. IsAdditionFault n def model why)

-- an entry that begins a new model, which is blank or a copy so far
abbrev pub IsBeginningFault : List Gathered → ModelDef → Gathered → SchemaFault → Type 0
IsBeginningFault models def model why =
    ((is_some (model_of models model.name) ≡ true) × (why ≡ fault.Twice (spot_at model.entry [])))
    ⊎ ((is_none (model_of models model.name) ≡ true)
    × (((max_models ≤ length models) × (why ≡ fault.Limit (spot_at model.entry []))) ⊎ IsAdditionFault model.entry def (begun def model) why))
