-- Private: the fields of all models as nodes, which of them reads which, and how high each stands.
use Rattle.std.specs.Prelude.{◌≡◌, ◌≢◌, ◌↔◌, ◌+◌, ◌-◌, ◌<◌, ◌≤◌, ◌++◌, ℕ, zero, suc, List, [], ◌∷◌, length, All, Any, Contains, Bool, true, false}
use Rattle.std.specs.Prelude.{Option, Some, IsSomeAnd, get_or, option_and_then, slice_get, Vec}
use Rattle.std.specs.declared.alloc.Global.{Global}
use Rattle.ob_definition.specs.declared.fault.SchemaFault.{SchemaFault}
use Rattle.ob_registry.specs.declared.graph.Graph.{Graph}
use Rattle.ob_registry.specs.declared.formulas.DraftFormula.{DraftFormula}
use Rattle.ob_schema.specs.declared.info.Step.{Step}
use Rattle.ob_definition.specs.declared.wrong.Wrong.{Wrong}
use Rattle.ob_definition.specs.declared.wrong.Wrong.TheVariants as wrong
use Rattle.ob_schema.specs.Built.{numbered}
use Rattle.ob_schema.specs.Chains.{HasChain, Reaches}
use Rattle.ob_definition.specs.Definitions.{is_set}
use Rattle.ob_definition.specs.Gathered.{Gathered}
use Rattle.ob_definition.specs.Members.{Member, hidden_members, members_of}
use Rattle.ob_schema.specs.Paths.{EndsIn, step_at}
use Rattle.ob_schema.specs.Strata.{IsCircle, IsComputedAt, IsMember, IsOnCycle, IsPastStrata, IsRecursion, IsStratum, Reads, ReadsAnother}
use Rattle.ob_registry.specs.Telling.{IsFormulaOf, spot_of}
use Rattle.ob_definition.specs.Findings.{IsFaultAt}

-- the first so many fields of the model of a number
abbrev pub steps_upto : ℕ → ℕ → List Step
steps_upto number zero = []
steps_upto number (suc k) = steps_upto number k ++ step_at (record { 0 = number }) (record { 0 = suc k }) ∷ []

-- the fields of models, the first of which has this number
abbrev pub steps_from : List Gathered → ℕ → List Gathered → List Step
steps_from models number [] = []
steps_from models number (g ∷ more) = steps_upto number (length (members_of models g) + length (hidden_members g)) ++ steps_from models (suc number) more

abbrev pub all_steps : List Gathered → List Step
all_steps models = steps_from models 1 models

-- a node reads another
abbrev pub NodeReads : List (Vec ℕ Global) → ℕ → ℕ → Type 0
NodeReads reads a b = IsSomeAnd (slice_get reads a) (λ row. Contains row.items b)

-- the node of a field, by the first one of its model
abbrev pub node_by : List ℕ → Step → ℕ
node_by starts step = get_or starts (step.model.0 - 1) 0 + step.field.0 - 1

-- each of these fields stands at its node
abbrev pub AreStarts : List Step → List ℕ → Type 0
AreStarts steps starts = (step : Step) → Contains steps step → (0 < step.model.0) × (0 < step.field.0) × (step.model.0 ≤ length starts) × (slice_get steps (node_by starts step) ≡ Some step)

-- the node of a computed field at the end of a path
abbrev pub IsReadOn : List Gathered → List Step → List Step → ℕ → Type 0
IsReadOn models steps path b = IsSomeAnd (slice_get steps b) (λ at. IsComputedAt models at × EndsIn path at)

-- a node that a formula reads: that of a computed field at the end of one of its paths
abbrev pub IsReadBy : List Gathered → List Step → Option DraftFormula → ℕ → Type 0
IsReadBy models steps formula b = IsSomeAnd formula (λ f. Any (λ path. IsReadOn models steps path.steps b) f.depends)

-- the nodes of all fields by number; each reads the computed fields at the ends of its paths, itself left out
pub record IsGraph (models : List Gathered) (graph : Graph) : Type 0 where
  pub steps : graph.steps.items ≡ all_steps models
  pub starts : AreStarts (all_steps models) graph.starts.items
  pub count : length graph.reads.items ≡ length (all_steps models)
  pub within : (a b : ℕ) → NodeReads graph.reads.items a b → b < length (all_steps models)
  pub reads : (a b : ℕ) (own other : Step) → slice_get (all_steps models) a ≡ Some own → slice_get (all_steps models) b ≡ Some other → NodeReads graph.reads.items a b ↔ ReadsAnother models own other

-- the height of each node: the length of its longest chain, or the limit where one is as long
pub record AreHeights (reads : List (Vec ℕ Global)) (limit : ℕ) (heights : List ℕ) : Type 0 where
  pub count : length heights ≡ length reads
  pub low : (a height : ℕ) → slice_get heights a ≡ Some height → height ≤ limit
  pub each : (a height n : ℕ) → slice_get heights a ≡ Some height → n ≤ limit → HasChain (NodeReads reads) n a ↔ (n ≤ height)

-- which nodes are reached from themselves
pub record AreOnCycles (reads : List (Vec ℕ Global)) (marks : List Bool) : Type 0 where
  pub count : length marks ≡ length reads
  pub each : (a : ℕ) → (slice_get marks a ≡ Some true) ↔ Reaches (NodeReads reads) a a

-- the formula of a field, by model and number
abbrev pub formula_in : List (Vec (Option DraftFormula) Global) → Step → Option (Option DraftFormula)
formula_in formulas step = option_and_then (λ own. numbered own.items step.field.0) (numbered formulas step.model.0)

-- each field has its formula there, in a list for each model, and nothing else is there
pub record AreFormulas (models : List Gathered) (formulas : List (Vec (Option DraftFormula) Global)) : Type 0 where
  pub count : length formulas ≡ length models
  pub each : (step : Step) (g : Gathered) (m : Member) → IsMember models step g m → IsSomeAnd (formula_in formulas step) (IsFormulaOf (record { models = models; number = step.model; member = m }))
  pub only : (step : Step) (found : Option DraftFormula) → formula_in formulas step ≡ Some found → Contains (all_steps models) step

-- a formula of another stratum
abbrev pub with_stratum : ℕ → DraftFormula → DraftFormula
with_stratum n formula = record formula { stratum = n }

-- each formula has its stratum
abbrev pub HaveStrata : List Gathered → List (Vec (Option DraftFormula) Global) → Type 0
HaveStrata models formulas = (step : Step) (formula : DraftFormula) → formula_in formulas step ≡ Some (Some formula) → IsStratum models step formula.stratum

-- all steps of a path but the last are such ones, and there is one at least
abbrev pub GoesBy : (Step → Type 0) → List Step → Type 0
GoesBy Through steps = (front : List Step) × (last : Step) × (steps ≡ front ++ last ∷ []) × (front ≢ []) × All Through front

-- those of these paths that end in this step are such paths
abbrev pub LeadsToItselfBy : (Step → Type 0) → Step → List (List Step) → Type 0
LeadsToItselfBy Through own paths = All (λ steps. EndsIn steps own → GoesBy Through steps) paths

-- what is wrong with how a field is read in turn from itself
abbrev pub IsSelfWrong : List Gathered → Step → Member → Wrong → Type 0
IsSelfWrong models at m wrong.Cycle = Reads models at at × (IsRecursion models at → ⊥)
IsSelfWrong models at m wrong.Recursion = Reads models at at × IsRecursion models at × (is_set m.def.recursive ≡ false)
IsSelfWrong models at m _ = ⊥

-- and with how fields read one another
abbrev pub IsChainWrong : List Gathered → Step → Member → Wrong → Type 0
IsChainWrong models at m wrong.Cycle = IsCircle models at
IsChainWrong models at m wrong.Recursion = Reads models at at × IsRecursion models at × (is_set m.def.recursive ≡ false)
IsChainWrong models at m wrong.Limit = IsPastStrata models at
IsChainWrong models at m _ = ⊥

-- a field is in a circle of several
abbrev pub IsCycleWrong : List Gathered → Step → Member → Wrong → Type 0
IsCycleWrong models at m wrong.Cycle = IsOnCycle models at
IsCycleWrong models at m _ = ⊥

-- its chains end, one of them past the limit
abbrev pub IsLongWrong : List Gathered → Step → Member → Wrong → Type 0
IsLongWrong models at m wrong.Limit = IsPastStrata models at
IsLongWrong models at m _ = ⊥

-- a fault of a field of this kind
abbrev pub IsStepFault : List Gathered → (Step → Member → Wrong → Type 0) → SchemaFault → Type 0
IsStepFault models IsWrong why = (at : Step) × (g : Gathered) × (m : Member) × IsMember models at g m × IsFaultAt (spot_of m) (IsWrong at m) why
