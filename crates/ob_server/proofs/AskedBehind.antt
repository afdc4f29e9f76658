-- What is served behind the look-up of a user, and what is replied where he isn't found out.
use Rattle.std.proofs.Common.{◌≡◌, inl, inr, ℕ, zero, suc, ℤ, ◌≤◌, List, Option, Result, Ok, Err, refl, sym, ◌∙◌, subst}
use Rattle.std.specs.Prelude.{IfErr, IsOk, IsSomeAnd}
use Rattle.serde_json.specs.Data.{Data}
use Rattle.ob_base.specs.declared.refusal.Refusal.{Refusal}
use Rattle.ob_base.specs.declared.refusal.Refusal.TheVariants as refusal
use Rattle.ob_cache.proofs.CallerLemmas.{Refuses-weaker}
use Rattle.ob_cache.specs.Calls.{KeeperRose, Refuses, Standpoint, models_at}
use Rattle.ob_cache.specs.Stages.{resting}
use Rattle.ob_cache.specs.Standing.{Holding, RestsAt, Stands, Stays}
use Rattle.ob_io.specs.Store.{Store}
use Rattle.ob_io.specs.declared.keeper.KeepFault.{KeepFault}
use Rattle.ob_io.specs.declared.keeper.KeepFault.TheVariants as keep_fault
use Rattle.ob_query.proofs.CallerLemmas.{rose_later}
use Rattle.ob_rpc.specs.Envelope.{element_place}
use Rattle.ob_schema.specs.Models.{model_at}
use Rattle.ob_schema.specs.Tables.{Tables}
use Rattle.ob_schema.specs.declared.info.ModelInfo.{ModelInfo}
use Rattle.ob_server.specs.Body.{RepliesBy, Serves, ServesOver}
use Rattle.ob_server.specs.Machine.{MayAnswer, MeansCause, TellsKeeper, called_at}
use Rattle.ob_server.specs.MethodCall.{IsFaultOf, IsUnread, LooksUpCaller}
use Rattle.ob_server.specs.Reply.{MayTell, RepliesTo, TellsPlainly, TellsUnread}
use Rattle.ob_server.specs.Request.{Call, Request, called, identified, malformed, request_by, telling_by, told_of, wrong}
use Rattle.ob_server.specs.Setup.{Setup, over}
use Rattle.ob_server.specs.Texts.{keeper_text, malformed_text, no_memory_text}
use Rattle.ob_server.specs.declared.request.ElementFault.{ElementFault}
use Rattle.ob_server.specs.declared.request.ElementFault.TheVariants as fault
use Rattle.ob_server.specs.declared.terms.Terms.{Terms}
use Rattle.ob_server.proofs.AnswerLaws.{plainly_replies, plainly_serves, replies_no_memory, serves_unchanged}

-- ---- behind a question

-- a fault of the keeper since a later moment is one since an earlier one
module _ (setup : Setup) (late rose : Type 0) (since : late → rose) where
  answer_since : (old : Tables) (now : ℤ) (request : Request) (reply : List ℕ) (new : Tables) → MayAnswer setup old now late request reply new → MayAnswer setup old now rose request reply new
  answer_since old now request reply new (inl answers) = inl answers
  answer_since old now request reply new (inr (same, inl unmade)) = inr (same, inl unmade)
  answer_since old now request reply new (inr (same, inr (risen, tells))) = inr (same, inr (since risen, tells))

  cause_since : (P : Refusal → Type 0) (outcome : Result Data Refusal) → IfErr outcome (Refuses late P) → IfErr outcome (Refuses rose P)
  cause_since P (Ok json) cause = tt
  cause_since P (Err why) cause = Refuses-weaker late rose P P why since (λ w holds. holds) cause

  replies_since : (now : ℤ) (request : Request) (reply : List ℕ) → RepliesTo setup late now request reply → RepliesTo setup rose now request reply
  replies_since now (called id call) reply replies = record {
    outcome = replies.outcome;
    cause = cause_since (λ why. IsSomeAnd (model_at setup.models call.model) (λ info. MeansCause call.method setup.models setup.policy (called_at now call info) why)) replies.outcome replies.cause;
    tells = replies.tells;
  }
  replies_since now (told_of id json) reply (inl tells) = inl tells
  replies_since now (told_of id json) reply (inr (risen, tells)) = absurd tells
  replies_since now (identified id json) reply (inl tells) = inl tells
  replies_since now (identified id json) reply (inr (risen, tells)) = inr (since risen, tells)
  replies_since now (wrong id n) reply (inl tells) = inl tells
  replies_since now (wrong id n) reply (inr (risen, tells)) = inr (since risen, tells)
  replies_since now (malformed id place) reply (inl tells) = inl tells
  replies_since now (malformed id place) reply (inr (risen, tells)) = absurd tells

-- who serves a request behind a question serves it
module _ (terms : Terms) (before mid after : Standpoint) (same : Stays before.kept before.held mid.kept mid.held) (count : before.faults ≤ mid.faults) (now : ℤ) (request : Request) (reply : List ℕ) where
  since_question : KeeperRose mid after → KeeperRose before after
  since_question = rose_later before.faults mid.faults after.faults count

  pub serves_behind : ServesOver terms mid after now request reply → ServesOver terms before after now request reply
  serves_behind serves = λ tables rests.
      let standing = subst (λ (models : List ModelInfo). Stands mid.kept mid.held (resting models tables)) (sym same.models) (same.stands (resting (models_at before) tables) rests) in
      let served = subst (λ (models : List ModelInfo). Serves (over terms models) tables now (KeeperRose mid after) request reply after.kept after.held) same.models (serves tables standing) in
      record { tables = served.tables; rests = served.rests; answer = answer_since (over terms (models_at before)) (KeeperRose mid after) (KeeperRose before after) since_question tables now request reply served.tables served.answer }

  pub replies_behind : RepliesBy terms mid after now request reply → RepliesBy terms before after now request reply
  replies_behind replies =
      replies_since (over terms (models_at before)) (KeeperRose mid after) (KeeperRose before after) since_question now request reply
      (subst (λ (models : List ModelInfo). RepliesTo (over terms models) (KeeperRose mid after) now request reply) same.models replies)

-- ---- elements that aren't read

-- a fault of the keeper may be told of a call, if a caller has to be looked up
pub keeper_of_call : (id : Data) (made : Result Call ℕ) → LooksUpCaller made → TellsKeeper (request_by id made) (keeper_text id)
keeper_of_call id (Ok call) up = refl
keeper_of_call id (Err zero) up = absurd (up refl)
keeper_of_call id (Err (suc n)) up = refl

-- and of a login, if no element is wrong
pub keeper_of_login : (id : Data) (told : Result Data ℕ) → IsOk told → TellsKeeper (telling_by id told) (keeper_text id)
keeper_of_login id (Ok json) up = refl
keeper_of_login id (Err n) up = absurd cc

-- the place of an element may be told where it is wrong
pub wrong_of_call : (models : List ModelInfo) (id : Data) (n : ℕ) (reply : List ℕ) → MayTell reply (malformed_text models id (element_place n)) → TellsPlainly models (request_by id (Err n)) reply
wrong_of_call models id zero reply tells = tells
wrong_of_call models id (suc n) reply tells = tells

pub wrong_of_login : (models : List ModelInfo) (id : Data) (n : ℕ) (reply : List ℕ) → MayTell reply (malformed_text models id (element_place n)) → TellsPlainly models (telling_by id (Err n)) reply
wrong_of_login models id n reply tells = tells

-- a reply that tells of a fault of the keeper
keeper_told : (id : Data) (request : Request) (reply : List ℕ) → TellsKeeper request (keeper_text id) → reply ≡ keeper_text id → TellsKeeper request reply
keeper_told id request reply keeper tells = subst (TellsKeeper request) (sym tells) keeper

-- what elements ask for, by what is read of them
module _ {A : Type 0} (setup : Setup) (rose : Type 0) (now : ℤ) (id : Data) (asks : Result A ℕ → Request)
    (plain : (n : ℕ) (reply : List ℕ) → MayTell reply (malformed_text setup.models id (element_place n)) → TellsPlainly setup.models (asks (Err n)) reply)
    (LooksUp : Result A ℕ → Type 0) (keeper : (made : Result A ℕ) → LooksUp made → TellsKeeper (asks made) (keeper_text id)) (IsReason : KeepFault → Type 0) (since : IsReason keep_fault.Failed → rose) where
  -- a reply that tells why they aren't read serves it
  pub unread_serves : (old : Tables) (made : Result A ℕ) (why : ElementFault) (reply : List ℕ) (kept : Option Store) (held : Holding)
      → RestsAt kept held old → IsFaultOf LooksUp made why → IsUnread IsReason why → TellsUnread setup.models id why reply → Serves setup old now rose (asks made) reply kept held
  unread_serves old made (fault.Wrong n) reply kept held rests is reason tells =
      subst (λ (m : Result A ℕ). Serves setup old now rose (asks m) reply kept held) (sym is) (plainly_serves setup old now rose (asks (Err n)) reply kept held rests (plain n reply tells))
  unread_serves old made (fault.Keeper keep_fault.Failed) reply kept held rests up reason (inl tells) =
      serves_unchanged setup old now rose (asks made) reply kept held rests (inr (refl, inr (since reason, keeper_told id (asks made) reply (keeper made up) tells)))
  unread_serves old made (fault.Keeper keep_fault.Failed) reply kept held rests up reason (inr unmade) = serves_unchanged setup old now rose (asks made) reply kept held rests (inr (refl, inl unmade))
  unread_serves old made (fault.Keeper keep_fault.NoMemory) reply kept held rests up reason unmade = serves_unchanged setup old now rose (asks made) reply kept held rests (inr (refl, inl unmade))

  -- and replies to it
  keeper_replies : (request : Request) (reply : List ℕ) → TellsKeeper request (keeper_text id) → rose → reply ≡ keeper_text id → RepliesTo setup rose now request reply
  keeper_replies (called own call) reply is risen tells = record { outcome = Err refusal.Keeper; cause = risen; tells = inl (tells ∙ is) }
  keeper_replies (told_of own json) reply is risen tells = absurd is
  keeper_replies (identified own json) reply is risen tells = inr (risen, tells ∙ is)
  keeper_replies (wrong own n) reply is risen tells = inr (risen, tells ∙ is)
  keeper_replies (malformed own place) reply is risen tells = absurd is

  unmade_replies : (request : Request) (reply : List ℕ) → reply ≡ no_memory_text → RepliesTo setup rose now request reply
  unmade_replies request reply unmade = subst (λ (r : List ℕ). RepliesTo setup rose now request r) (sym unmade) (replies_no_memory setup rose now request)

  pub unread_replies : (made : Result A ℕ) (why : ElementFault) (reply : List ℕ) → IsFaultOf LooksUp made why → IsUnread IsReason why → TellsUnread setup.models id why reply → RepliesTo setup rose now (asks made) reply
  unread_replies made (fault.Wrong n) reply is reason tells =
      subst (λ (m : Result A ℕ). RepliesTo setup rose now (asks m) reply) (sym is) (plainly_replies setup rose now (asks (Err n)) reply (plain n reply tells))
  unread_replies made (fault.Keeper keep_fault.Failed) reply up reason (inl tells) = keeper_replies (asks made) reply (keeper made up) (since reason) tells
  unread_replies made (fault.Keeper keep_fault.Failed) reply up reason (inr unmade) = unmade_replies (asks made) reply unmade
  unread_replies made (fault.Keeper keep_fault.NoMemory) reply up reason unmade = unmade_replies (asks made) reply unmade
