-- What a caller sees of facts: the known rows of models that he may read which rules admit to him, and of lists of rows those. Rules are asked over all that the facts tell.
use Rattle.std.specs.Prelude.{◌≡◌, ◌&&◌, Bool, List, filter}
use Rattle.std.specs.Option.{option_map_or}
use Rattle.ob_base.specs.declared.id.Cell.{Cell}
use Rattle.ob_base.specs.declared.id.ModelNo.{ModelNo}
use Rattle.ob_base.specs.declared.id.RecId.{RecId}
use Rattle.ob_base.specs.declared.refusal.Op.TheVariants as op
use Rattle.ob_base.specs.declared.value.Value.{Value}
use Rattle.ob_base.specs.declared.value.Value.TheVariants as value
use Rattle.ob_domain.specs.Aims.{target_at}
use Rattle.ob_domain.specs.declared.fault.HoldFault.{HoldFault}
use Rattle.ob_domain.specs.declared.fault.HoldFault.TheVariants as fault
use Rattle.ob_expr.specs.Meaning.{row_at}
use Rattle.ob_schema.specs.Facts.{Asked, FailedBehind, OfAllTold, Told}
use Rattle.ob_schema.specs.Paths.{step_at}
use Rattle.ob_schema.specs.declared.info.ModelInfo.{ModelInfo}
use Rattle.ob_access.specs.Admission.{admits}
use Rattle.ob_access.specs.Policies.{IsPolicyOver, PolicyData}
use Rattle.ob_access.specs.Rights.{right}

-- the caller sees a row: it is known, he may read its model, and rules admit it to him
abbrev pub sees : PolicyData → Told → List RecId → RecId → ModelNo → RecId → Bool
sees policy told own user model id = told.knows model id && right policy own user model op.Read && admits policy told own user op.Read (row_at model id)

-- of rows of a model those that he sees, in their order
abbrev pub seen_ids : PolicyData → Told → List RecId → RecId → ModelNo → List RecId → List RecId
seen_ids policy told own user model ids = filter (λ id. sees policy told own user model id) ids

-- of a list of rows of a model those that he sees; each other value is itself
abbrev pub cut_value : PolicyData → Told → List RecId → RecId → ModelNo → Value → Value
cut_value policy told own user model (value.Refs ids) = value.Refs (seen_ids policy told own user model ids)
cut_value policy told own user model v = v

-- what he sees of a cell's value: a relation's is cut to rows of its model that he sees, each other is itself
abbrev pub seen_value : List ModelInfo → PolicyData → Told → List RecId → RecId → Cell → Value
seen_value models policy told own user cell = option_map_or (λ model. cut_value policy told own user model (told.held cell)) (target_at models (step_at cell.model cell.field)) (told.held cell)

-- what he sees of what is told
abbrev pub seen : List ModelInfo → PolicyData → List RecId → RecId → Told → Told
seen models policy own user told = record { knows = sees policy told own user; held = seen_value models policy told own user }

-- what facts tell him: what he sees of what they tell
abbrev pub TellsSeen : (Told → Type 0) → List ModelInfo → PolicyData → List RecId → RecId → Told → Type 0
TellsSeen tells models policy own user told = (all : Told) × tells all × (told ≡ seen models policy own user all)

-- a policy over the models about which facts are, and the registry of these
pub record AreSeenBy (models : List ModelInfo) (policy : PolicyData) (schema : List ModelInfo) : Type 0 where
  pub over : IsPolicyOver models policy
  pub registry : schema ≡ models

-- questions to facts, one behind another: behind them the facts are about the same models, and tell the same
pub record AsksThrough {S : Type 0} (registry : S → List ModelInfo) (tells : S → Told → Type 0) (asks : S → S → Type 0) (old new : S) : Type 0 where
  pub asked : Asked asks old new
  pub same : registry new ≡ registry old
  pub kept : OfAllTold (tells old) (tells new)
  pub only : OfAllTold (tells new) (tells old)

-- who sees, and by what: a registry, a policy over it, and a caller's groups and id
pub record Viewer : Type 0 where
  pub models : List ModelInfo
  pub policy : PolicyData
  pub own : List RecId
  pub user : RecId

abbrev pub viewer_of : List ModelInfo → PolicyData → List RecId → RecId → Viewer
viewer_of models policy own user = record { models = models; policy = policy; own = own; user = user }

-- a fault of what is seen, as one of the facts below it
abbrev pub fault_below : {F : Type 0} → HoldFault (HoldFault F) → HoldFault F
fault_below (fault.Fact why) = why
fault_below fault.NoMemory = fault.NoMemory

-- questions behind one another are one question; of the kind of one that is asked
abbrev pub AreQuestions : {S : Type 0} → S → (S → S → Type 0) → Type 0
AreQuestions {S} one asks = (first now : S) → Asked asks first now → asks first now

-- what fails behind questions fails as one question does
abbrev pub FailAsOne : {S Fault : Type 0} → S → (S → S → Type 0) → (S → S → Fault → Type 0) → Type 0
FailAsOne {S} {Fault} one asks has_failed = (first now : S) (why : Fault) → FailedBehind asks has_failed first now why → has_failed first now why
