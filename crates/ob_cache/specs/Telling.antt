-- What an engine tells whoever asks for facts about rows, or for links between them.
use Rattle.std.specs.Prelude.{◌≡◌, ⊤, Option}
use Rattle.ob_cache.specs.Stages.{IsUsable, Stages}
use Rattle.ob_cache.specs.Standing.{Holding, Stands}
use Rattle.ob_cache.specs.declared.fault.ReadFault.{ReadFault}
use Rattle.ob_cache.specs.declared.fault.ReadFault.TheVariants as read_fault
use Rattle.ob_io.specs.Store.{Store}
use Rattle.ob_io.specs.declared.keeper.KeepFault.{KeepFault}
use Rattle.ob_io.specs.declared.keeper.KeepFault.TheVariants as keep_fault
use Rattle.ob_schema.specs.Facts.{Asked, FailedBehind, OfAllTold, Told, told_by}
use Rattle.ob_schema.specs.Links.{Sides}

-- it tells of the tables that were settled last, whatever is staged
abbrev pub TellsFacts : Option Store → Holding → Told → Type 0
TellsFacts kept held told = (at : Stages) × Stands kept held at × IsUsable at.phase × (told ≡ told_by at.models at.settled)

-- the two sides of the edits since the last settle
abbrev pub sides_of : Stages → Sides
sides_of stages = record { before = stages.settled; behind = stages.staged }

-- links are told on both sides of them
abbrev pub TellsLinks : Option Store → Holding → Sides → Type 0
TellsLinks kept held sides = (at : Stages) × Stands kept held at × IsUsable at.phase × (sides ≡ sides_of at)

-- why a question about facts fails: nothing is told, as after a fault; the keeper failed; or memory is wanting
abbrev pub FailsFacts : (Told → Type 0) → Type 0 → ReadFault → Type 0
FailsFacts tells rose read_fault.Missing = OfAllTold tells (λ _. ⊥)
FailsFacts tells rose read_fault.Keeper = rose
FailsFacts tells rose read_fault.NoMemory = ⊤

-- why a question about links fails: the keeper failed; or memory is wanting
abbrev pub FailsLinks : Type 0 → KeepFault → Type 0
FailsLinks rose keep_fault.Failed = rose
FailsLinks rose keep_fault.NoMemory = ⊤

-- questions behind one another are one question; of the kind of one that is asked
abbrev pub AreQuestions : {S : Type 0} → S → (S → S → Type 0) → Type 0
AreQuestions {S} one asks = (first now : S) → Asked asks first now → asks first now

-- what fails behind questions fails as one question does
abbrev pub FailAsOne : {S Fault : Type 0} → S → (S → S → Type 0) → (S → S → Fault → Type 0) → Type 0
FailAsOne {S} {Fault} one asks has_failed = (first now : S) (fault : Fault) → FailedBehind asks has_failed first now fault → has_failed first now fault
