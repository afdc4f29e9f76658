-- What all rooms find is what is faulty in the definitions.
use Rattle.std.proofs.Common.{◌≡◌, ◌⊎◌, inl, inr, List, None, Option, subst}
use Rattle.ob_definition.specs.declared.definition.ModelDef.{ModelDef}
use Rattle.ob_definition.specs.declared.fault.SchemaFault.{SchemaFault}
use Rattle.ob_definition.specs.declared.fault.SchemaFault.TheVariants as fault
use Rattle.ob_definition.specs.declared.wrong.Wrong.TheVariants as wrong
use Rattle.ob_definition.specs.EntryFaults.{IsGatheringFault}
use Rattle.ob_definition.specs.Findings.{Adds}
use Rattle.ob_definition.specs.Gathered.{AreWellNamed, Gathered, gathered}
use Rattle.ob_definition.proofs.CallerLemmas.{Adds-both, Adds-same}
use Rattle.ob_registry.specs.Faults.{IsFaulty, IsFieldFault, IsModelFault}
use Rattle.ob_registry.specs.Graphs.{IsChainWrong, IsStepFault}
use Rattle.ob_registry.specs.Resolving.{AreModelFaults}
use Rattle.ob_registry.specs.Telling.{AreFormulaFaults, AreKeyFaults}
use Rattle.ob_registry.proofs.FieldVerdict.{formulas_faulty, formulas_told, keys_told, members_faulty, steps_faulty, steps_told}
use Rattle.ob_registry.proofs.KeyVerdict.{count_told, field_told, key_faulty, kind_told}
use Rattle.ob_registry.proofs.MadeVerdict.{made_faulty, no_parent_made, not_inherited_made, path_made, taken_made}
use Rattle.ob_registry.proofs.SingleFields.{AreSingle, single}

module _ (defs : List ModelDef) (named : AreWellNamed (gathered defs)) where
  abbrev models : List Gathered
  models = gathered defs

  abbrev IsDefined : SchemaFault → Type 0
  IsDefined why = IsModelFault defs why ⊎ IsFieldFault defs why

  keys_faulty : (why : SchemaFault) → AreKeyFaults models why → IsDefined why
  keys_faulty why (number, g, known, inl key) = inl (key_faulty defs named number g known why key)
  keys_faulty why (number, g, known, inr members) = inr (members_faulty defs number g known why members)

  defined : AreSingle models → (why : SchemaFault) → AreModelFaults models why → IsDefined why
  defined one why (inl made) = inl (made_faulty defs why made)
  defined one why (inr (inl keys)) = keys_faulty why keys
  defined one why (inr (inr (inl formulas))) = inr (formulas_faulty defs why formulas)
  defined one why (inr (inr (inr steps))) = inr (steps_faulty defs one why steps)

  by_key : (why : SchemaFault) → AreKeyFaults models why → AreModelFaults models why
  by_key why keys = inr (inl keys)

  by_formula : (why : SchemaFault) → AreFormulaFaults models why → AreModelFaults models why
  by_formula why formulas = inr (inr (inl formulas))

  by_step : (why : SchemaFault) → IsStepFault models (IsChainWrong models) why → AreModelFaults models why
  by_step why steps = inr (inr (inr steps))

  model_told : (why : SchemaFault) → IsModelFault defs why → AreModelFaults models why
  model_told (fault.Model spot) is = inl (no_parent_made defs spot is)
  model_told (fault.Field spot) (g, there, name, is) = by_key (fault.Field spot) (field_told defs spot g there name is)
  model_told (fault.Kind spot) (g, there, name, is) = by_key (fault.Kind spot) (kind_told defs named spot g there name is)
  model_told (fault.Twice spot) (inl taken) = inl (taken_made defs spot taken)
  model_told (fault.Twice spot) (inr path) = inl (path_made defs spot path)
  model_told (fault.Inherits spot) is = inl (not_inherited_made defs spot is)
  model_told (fault.Limit spot) is = by_key (fault.Limit spot) (count_told defs spot is)
  model_told _ is = absurd is

  at_field_told : (why : SchemaFault) → IsFieldFault defs why → AreModelFaults models why
  at_field_told (fault.Model spot) is = by_key (fault.Model spot) (keys_told defs spot _ is wrong.Model is.holds)
  at_field_told (fault.Field spot) is = elim is.holds as (λ _. AreModelFaults models (fault.Field spot)) [
    | inl inverse ↦ by_key (fault.Field spot) (keys_told defs spot _ is wrong.Field (inl inverse))
    | inr rest ↦ elim rest as (λ _. AreModelFaults models (fault.Field spot)) [
      | inl mirror ↦ by_key (fault.Field spot) (keys_told defs spot _ is wrong.Field (inr mirror))
      | inr more ↦ by_formula (fault.Field spot) (formulas_told defs spot _ is wrong.Field more)
    ]
  ]
  at_field_told (fault.Kind spot) is = elim is.holds as (λ _. AreModelFaults models (fault.Kind spot)) [
    | inl keys ↦ by_key (fault.Kind spot) (keys_told defs spot _ is wrong.Kind keys)
    | inr kind ↦ by_formula (fault.Kind spot) (formulas_told defs spot _ is wrong.Kind kind)
  ]
  at_field_told (fault.Cycle spot) is = let h = is.holds in by_step (fault.Cycle spot) (steps_told defs spot _ is h.0 h.1 wrong.Cycle h.2)
  at_field_told (fault.Recursion spot) is = let h = is.holds in by_step (fault.Recursion spot) (steps_told defs spot _ is h.0 h.1 wrong.Recursion (h.2, h.3, h.4))
  at_field_told (fault.Path spot) is = by_formula (fault.Path spot) (formulas_told defs spot _ is wrong.Path is.holds)
  at_field_told (fault.Inverse spot) is = by_key (fault.Inverse spot) (keys_told defs spot _ is wrong.Inverse is.holds)
  at_field_told (fault.Limit spot) is = elim is.holds as (λ _. AreModelFaults models (fault.Limit spot)) [
    | inl text ↦ by_formula (fault.Limit spot) (formulas_told defs spot _ is wrong.Limit (inl text))
    | inr rest ↦ elim rest as (λ _. AreModelFaults models (fault.Limit spot)) [
      | inl path ↦ by_formula (fault.Limit spot) (formulas_told defs spot _ is wrong.Limit (inr path))
      | inr chain ↦ by_step (fault.Limit spot) (steps_told defs spot _ is chain.0 chain.1 wrong.Limit chain.2)
    ]
  ]
  at_field_told (fault.Text spot why) is = by_formula (fault.Text spot why) (formulas_told defs spot _ is (wrong.Text why) is.holds)
  at_field_told _ is = absurd is

  -- what all rooms find
  pub all_found : AreSingle models → (a b c : Option SchemaFault) → Adds (IsGatheringFault defs) a b → Adds (AreModelFaults models) b c → Adds (IsFaulty defs) a c
  all_found one a b c entries rest =
      Adds-both (IsGatheringFault defs) IsDefined a b c entries (Adds-same (AreModelFaults models) IsDefined b c (defined one) told rest)
    where
      told : (why : SchemaFault) → IsDefined why → AreModelFaults models why
      told why (inl model) = model_told why model
      told why (inr field) = at_field_told why field

-- the same of models that were gathered, from nothing on
pub verdict : (defs : List ModelDef) (gathering : List Gathered) → gathering ≡ gathered defs → AreWellNamed gathering → (a b c : Option SchemaFault) → a ≡ None
    → Adds (IsGatheringFault defs) a b → Adds (AreModelFaults gathering) b c → Adds (IsFaulty defs) None c
verdict defs gathering same named a b c none entries rest =
    let well : AreWellNamed (gathered defs) = subst AreWellNamed same named in
    all_found defs well (single (gathered defs) well) None b c (subst (λ (o : Option SchemaFault). Adds (IsGatheringFault defs) o b) none entries) (subst (λ (m : List Gathered). Adds (AreModelFaults m) b c) same rest)
