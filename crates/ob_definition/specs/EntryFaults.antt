-- What stands against entries in their turn, and against the links of models to parents.
use Rattle.std.specs.Prelude.{◌≡◌, ◌<◌, ◌≤◌, ◌⊎◌, ◌||◌, ◌&&◌, ℕ, List, [], ◌∷◌, length, Any, slice_get, Bool, true, false, not}
use Rattle.std.specs.Prelude.{is_none, is_some, Some, None, IsSomeAnd}
use Rattle.std.specs.Option.{option_map_or}
use Rattle.ob_base.specs.Limits.{max_checks, max_models}
use Rattle.ob_definition.specs.declared.definition.Check.{Check}
use Rattle.ob_definition.specs.declared.definition.FieldDef.{FieldDef}
use Rattle.ob_definition.specs.declared.definition.Inherits.{Inherits}
use Rattle.ob_definition.specs.declared.definition.ModelDef.{ModelDef}
use Rattle.ob_definition.specs.declared.fault.SchemaFault.{SchemaFault}
use Rattle.ob_definition.specs.declared.fault.SchemaFault.TheVariants as fault
use Rattle.ob_definition.specs.declared.fault.Spot.{Spot}
use Rattle.ob_definition.specs.Definitions.{is_one_of}
use Rattle.ob_definition.specs.Gathered.{Declared, DeclaredCheck, Gathered, added, before, is_check, is_taken, model_of, opened, with_check, with_field}
use Rattle.ob_definition.specs.Members.{check_name, given_members, may_inherit, names_of, with_link}
use Rattle.ob_definition.specs.Names.{is_model_name}

-- An entry as it is taken, in its turn.

-- at an entry as a whole
abbrev pub IsWhole : ℕ → Spot → Type 0
IsWhole n spot = (spot.entry ≡ n) × (spot.field ≡ [])

-- the entry names no model, or one to inherit from that no earlier entry makes
abbrev pub NamesNoModel : List Gathered → ModelDef → Type 0
NamesNoModel models def = ((def.name ≡ None) × (def.inherit ≡ None)) ⊎ IsSomeAnd def.inherit (λ base. model_of models base ≡ None)

-- a key of an entry that extends a model, though only a new model may have it
abbrev pub has_key_of_new : ModelDef → Bool
has_key_of_new def = is_some def.parent || is_some (slice_get def.inherits 0) || is_some def.locked || is_some def.managed

abbrev pub extends_with_key : ModelDef → Bool
extends_with_key def = is_none def.name && is_some def.inherit && has_key_of_new def

-- the name is of another form, or there is such a key
abbrev pub is_wrong_entry : ModelDef → Bool
is_wrong_entry def = option_map_or (λ name. not (is_model_name name)) def.name false || extends_with_key def

-- an earlier entry makes a model of the name; a model to inherit from, if one is named, is there
abbrev pub IsNamedBefore : List Gathered → ModelDef → Type 0
IsNamedBefore models def = IsSomeAnd def.name (λ name. is_some (model_of models name) ≡ true) × (NamesNoModel models def → ⊥)

-- the entry makes a model past the greatest number, or leaves one with too many checks
abbrev pub IsPastLimit : List Gathered → ℕ → ModelDef → Type 0
IsPastLimit models n def =
    IsSomeAnd (opened models n def) (λ model. ((is_none (model_of models model.name) ≡ true) × (max_models ≤ length models)) ⊎ (max_checks < length (added n def model).checks))

-- among fields that are added in turn, one of this name finds it taken
abbrev pub IsFieldTwice : ℕ → List Declared → List FieldDef → List ℕ → Type 0
IsFieldTwice n fields [] name = ⊥
IsFieldTwice n fields (f ∷ more) name = ((f.name ≡ name) × (is_taken fields name ≡ true)) ⊎ IsFieldTwice n (with_field n fields f) more name

-- likewise among checks
abbrev pub IsCheckTwice : ℕ → List DeclaredCheck → List Check → List ℕ → Type 0
IsCheckTwice n checks [] name = ⊥
IsCheckTwice n checks (c ∷ more) name = ((c.name ≡ name) × (is_check checks name ≡ true)) ⊎ IsCheckTwice n (with_check n checks c) more name

-- a field, or a check, that the entry adds finds its name taken
abbrev pub IsAddedTwice : List Gathered → ℕ → ModelDef → List ℕ → Type 0
IsAddedTwice models n def spot =
    IsSomeAnd (opened models n def) (λ model. IsFieldTwice n model.fields def.fields spot ⊎ ((name : List ℕ) × IsCheckTwice n model.checks def.checks name × (check_name name ≡ spot)))

-- an entry has this fault, by the models before it
abbrev pub IsEntryFault : List Gathered → ℕ → ModelDef → SchemaFault → Type 0
IsEntryFault models n def (fault.Model spot) = IsWhole n spot × NamesNoModel models def
IsEntryFault models n def (fault.Kind spot) = IsWhole n spot × (is_wrong_entry def ≡ true)
IsEntryFault models n def (fault.Twice spot) = (IsWhole n spot × IsNamedBefore models def) ⊎ ((spot.entry ≡ n) × IsAddedTwice models n def spot.field)
IsEntryFault models n def (fault.Limit spot) = IsWhole n spot × IsPastLimit models n def
IsEntryFault models n def _ = ⊥

-- one of the entries has it
abbrev pub IsGatheringFault : List ModelDef → SchemaFault → Type 0
IsGatheringFault defs why = (n : ℕ) × (def : ModelDef) × (slice_get defs n ≡ Some def) × IsEntryFault (before defs n) n def why

-- A link to a parent.

module _ (models : List Gathered) where
  -- a parent that is no model
  abbrev pub HasNoParent : Gathered → Type 0
  HasNoParent g = Any (λ i. model_of models i.model ≡ None) g.inherits

  -- a parent that is the model itself, or has parents
  abbrev pub MayNotInherit : Gathered → Type 0
  MayNotInherit g = Any (λ i. (is_some (model_of models i.model) ≡ true) × (may_inherit models g i ≡ false)) g.inherits

  -- a link to a parent that the model may have finds its name taken in its turn
  abbrev pub IsLinkTaken : Gathered → List (List ℕ) → List Inherits → Type 0
  IsLinkTaken g taken [] = ⊥
  IsLinkTaken g taken (i ∷ more) = ((may_inherit models g i && is_one_of taken i.link) ≡ true) ⊎ IsLinkTaken g (with_link models g taken i) more

  abbrev pub HasTakenLink : Gathered → Type 0
  HasTakenLink g = IsLinkTaken g (names_of (given_members g)) g.inherits
