-- The replies that the code makes.
use Rattle.std.specs.Prelude.{◌≡◌, ℕ, ℤ, List, ◌⊎◌, IfErr, IsSomeAnd, Option, Result}
use Rattle.serde_json.specs.Data.{Data}
use Rattle.ob_base.specs.declared.refusal.Refusal.{Refusal}
use Rattle.ob_cache.specs.Calls.{Refuses}
use Rattle.ob_cache.specs.Standing.{Holding, RestsAt}
use Rattle.ob_io.specs.Store.{Store}
use Rattle.ob_io.specs.declared.keeper.KeepFault.TheVariants as keep_fault
use Rattle.ob_rpc.specs.Envelope.{element_place}
use Rattle.ob_schema.specs.Models.{model_at}
use Rattle.ob_schema.specs.Tables.{Tables}
use Rattle.ob_schema.specs.declared.info.ModelInfo.{ModelInfo}
use Rattle.ob_server.specs.Machine.{MeansCause, TellsKeeper, called_at}
use Rattle.ob_server.specs.Request.{Call, Request, called, identified, malformed, told_of, wrong}
use Rattle.ob_server.specs.Setup.{Setup}
use Rattle.ob_server.specs.declared.request.ElementFault.{ElementFault}
use Rattle.ob_server.specs.declared.request.ElementFault.TheVariants as fault
use Rattle.ob_server.specs.declared.replies.Reply.{Reply}
use Rattle.ob_server.specs.declared.replies.Reply.TheVariants.{Text, NoMemory}
use Rattle.ob_server.specs.Texts.{keeper_text, malformed_text, no_memory_text, outcome_text, result_text, told}

-- the text of a reply
abbrev pub text_of : Reply → List ℕ
text_of (Text text) = text
text_of NoMemory = no_memory_text

-- the reply is this text, or the fixed one where there was no memory for it
abbrev pub MayTell : List ℕ → List ℕ → Type 0
MayTell reply text = (reply ≡ text) ⊎ (reply ≡ no_memory_text)

-- Whatever the keeper tells, the reply to a call tells of a result, or of a refusal by a cause that its method has; of a fault of the keeper only where its count rose.
pub record RepliesToCall (setup : Setup) (rose : Type 0) (now : ℤ) (id : Data) (call : Call) (reply : List ℕ) : Type 0 where
  pub outcome : Result Data Refusal
  pub cause : IfErr outcome (Refuses rose (λ why. IsSomeAnd (model_at setup.models call.model) (λ info. MeansCause call.method setup.models setup.policy (called_at now call info) why)))
  pub tells : MayTell reply (outcome_text setup.models id (told call.layout outcome))

-- the reply to a request that is no call: what is told, the element that is wrong first, or the place of the body that is
abbrev pub TellsPlainly : List ModelInfo → Request → List ℕ → Type 0
TellsPlainly models (told_of id json) reply = MayTell reply (result_text id json)
TellsPlainly models (identified id json) reply = MayTell reply (result_text id json)
TellsPlainly models (wrong id n) reply = MayTell reply (malformed_text models id (element_place n))
TellsPlainly models (malformed id place) reply = MayTell reply (malformed_text models id place)
TellsPlainly models _ reply = ⊥

-- the reply to a request of this id whose elements aren't read: one is wrong, or the user wasn't looked up
abbrev pub TellsUnread : List ModelInfo → Data → ElementFault → List ℕ → Type 0
TellsUnread models id (fault.Wrong n) reply = MayTell reply (malformed_text models id (element_place n))
TellsUnread models id (fault.Keeper keep_fault.Failed) reply = MayTell reply (keeper_text id)
TellsUnread models id (fault.Keeper keep_fault.NoMemory) reply = reply ≡ no_memory_text

-- the reply to a request; of one for which a user is looked up it may tell of a fault of the keeper, where its count rose
abbrev pub RepliesTo : Setup → Type 0 → ℤ → Request → List ℕ → Type 0
RepliesTo setup rose now (called id call) reply = RepliesToCall setup rose now id call reply
RepliesTo setup rose now request reply = TellsPlainly setup.models request reply ⊎ (rose × TellsKeeper request reply)

-- the reply tells of the result, or of a fault of the keeper, whose count rose
abbrev pub TellsKept : Type 0 → Data → Data → List ℕ → Type 0
TellsKept rose id json reply = MayTell reply (result_text id json) ⊎ (rose × MayTell reply (keeper_text id))

-- the next tables are kept and the result is told; or the old ones still are, for want of memory or a fault of the keeper
abbrev pub Keeps : Type 0 → Data → Data → (old next : Tables) → Option Store → Holding → List ℕ → Type 0
Keeps rose id json old next kept held reply = (RestsAt kept held next × (reply ≡ result_text id json))
    ⊎ (RestsAt kept held old × ((reply ≡ no_memory_text) ⊎ (rose × (reply ≡ keeper_text id))))
