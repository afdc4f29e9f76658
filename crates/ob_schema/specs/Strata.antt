-- Which computed fields read which, in what direction a field reads itself, and strata.
use Rattle.std.specs.Prelude.{◌≡◌, ◌≢◌, ◌⊎◌, ◌++◌, ℕ, suc, List, [], ◌∷◌, All, Contains, true, Option, Some, option_and_then}
use Rattle.ob_base.specs.Limits.{max_stratum}
use Rattle.ob_base.specs.declared.id.FieldNo.{FieldNo}
use Rattle.ob_base.specs.declared.id.ModelNo.{ModelNo}
use Rattle.ob_definition.specs.declared.field_type.FieldType.TheVariants as type
use Rattle.ob_schema.specs.declared.info.Step.{Step}
use Rattle.ob_schema.specs.Chains.{HasChain, Reaches}
use Rattle.ob_definition.specs.Definitions.{is_computed}
use Rattle.ob_schema.specs.Finds.{relation_of}
use Rattle.ob_schema.specs.Formulas.{DependsAlong}
use Rattle.ob_definition.specs.Gathered.{Gathered}
use Rattle.ob_definition.specs.Members.{Member, hidden_members, hidden_number, members_of, model_at, number_named, number_of}

-- the field of a number of a model, named or hidden
pub data IsMember (models : List Gathered) : Step → Gathered → Member → Type 0 where
  by_name : (step : Step) (g : Gathered) (m : Member) → model_at models step.model.0 ≡ Some g → Contains (members_of models g) m → number_of models g m.def.name ≡ step.field
      → IsMember models step g m
  by_condition : (step : Step) (g : Gathered) (m : Member) → model_at models step.model.0 ≡ Some g → Contains (hidden_members g) m → hidden_number models g m.def.name ≡ step.field
      → IsMember models step g m

-- a path on which the field depends
pub record IsPathOf (models : List Gathered) (at : Step) (path : List Step) : Type 0 where
  pub model : Gathered
  pub member : Member
  pub is_member : IsMember models at model member
  pub depends : DependsAlong (record { models = models; number = at.model; member = member }) path

-- the field is computed
abbrev pub IsComputedAt : List Gathered → Step → Type 0
IsComputedAt models at = (g : Gathered) × (m : Member) × IsMember models at g m × (is_computed m.def ≡ true)

-- a field reads the computed field at the end of one of its paths
abbrev pub Reads : List Gathered → Step → Step → Type 0
Reads models a b = IsComputedAt models b × ((front : List Step) × IsPathOf models a (front ++ b ∷ []))

-- a field reads another
abbrev pub ReadsAnother : List Gathered → Step → Step → Type 0
ReadsAnother models a b = Reads models a b × (a ≢ b)

-- a chain of so many computed fields, each read by the one before it, and none by itself
abbrev pub Chain : List Gathered → ℕ → Step → Type 0
Chain models n a = HasChain (ReadsAnother models) n a

-- a field is read in turn from itself through others
abbrev pub IsOnCycle : List Gathered → Step → Type 0
IsOnCycle models a = Reaches (ReadsAnother models) a a

-- a field reads in turn one that is in a circle of several: its chains have no end
abbrev pub MeetsCircle : List Gathered → Step → Type 0
MeetsCircle models a = (b : Step) × Reaches (ReadsAnother models) a b × IsOnCycle models b

-- a field has a chain past the greatest stratum, and all its chains end
abbrev pub IsPastStrata : List Gathered → Step → Type 0
IsPastStrata models a = Chain models (suc max_stratum) a × (MeetsCircle models a → ⊥)

-- the parent field of a tree, as a step from its rows
abbrev pub parent_of : List Gathered → ModelNo → Option FieldNo
parent_of models number = option_and_then (λ g. option_and_then (number_named models g) g.parent) (model_at models number.0)

-- a step from the rows of a tree to their parents
abbrev pub IsToParent : List Gathered → ModelNo → Step → Type 0
IsToParent models number step = (step.model ≡ number) × (parent_of models number ≡ Some step.field)

-- a step from the rows of a tree to their children: through a one2many whose inverse is the parent field
pub record IsToChildren (models : List Gathered) (number : ModelNo) (step : Step) : Type 0 where
  pub model : Gathered
  pub member : Member
  pub is_member : IsMember models step model member
  pub one2many : member.def.field_type ≡ type.One2many
  pub back : relation_of models member.def ≡ Some number
  pub inverse : List ℕ
  pub given : member.def.inverse ≡ Some inverse
  pub parent : FieldNo
  pub is_parent : parent_of models number ≡ Some parent
  pub leads_back : option_and_then (λ g. number_named models g inverse) (model_at models number.0) ≡ Some parent

-- every path from a field to itself leads through such steps, and through one at least
abbrev pub ReadsItselfBy : List Gathered → (Step → Type 0) → Step → Type 0
ReadsItselfBy models Through a = (front : List Step) → IsPathOf models a (front ++ a ∷ []) → (front ≢ []) × All Through front

-- a field reads itself up its tree, or down, not both
abbrev pub IsRecursion : List Gathered → Step → Type 0
IsRecursion models a = ReadsItselfBy models (IsToParent models a.model) a ⊎ ReadsItselfBy models (IsToChildren models a.model) a

-- a circle: through other fields, or from a field to itself in another way
abbrev pub IsCircle : List Gathered → Step → Type 0
IsCircle models a = IsOnCycle models a ⊎ (Reads models a a × (IsRecursion models a → ⊥))

-- the stratum of a field whose chains end: the length of the longest
pub record IsStratum (models : List Gathered) (a : Step) (n : ℕ) : Type 0 where
  pub chain : Chain models n a
  pub longest : Chain models (suc n) a → ⊥
