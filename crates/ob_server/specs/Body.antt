-- What is done for one body, by an engine that rests at the machine's tables.
use Rattle.std.specs.Prelude.{◌≡◌, ◌⊎◌, ℕ, ℤ, List, Option, IfSome, option_map}
use Rattle.ob_cache.specs.Calls.{HasTables, KeeperRose, Standpoint, models_at}
use Rattle.ob_cache.specs.Standing.{Holding, RestsAt}
use Rattle.ob_io.specs.Store.{Store}
use Rattle.ob_rpc.specs.Envelope.{envelope_of}
use Rattle.ob_rpc.specs.declared.methods.Served.TheVariants.{EveryMethod}
use Rattle.ob_schema.specs.Tables.{Tables}
use Rattle.ob_server.specs.Setup.{Setup, over}
use Rattle.ob_server.specs.declared.terms.Terms.{Terms}
use Rattle.ob_server.specs.Directory.{Directory, directory_of}
use Rattle.ob_server.specs.Request.{Request, request_of}
use Rattle.ob_server.specs.Machine.{MayAnswer, asked_by, moments_after}
use Rattle.ob_server.specs.Reply.{RepliesTo}
use Rattle.ob_server.specs.Texts.{no_memory_text}

-- The machine may give this reply, and go on from old to tables at which the engine then rests.
pub record Serves (setup : Setup) (old : Tables) (now : ℤ) (rose : Type 0) (request : Request) (reply : List ℕ) (kept_now : Option Store) (held_now : Holding) : Type 0 where
  pub tables : Tables
  pub rests : RestsAt kept_now held_now tables
  pub answer : MayAnswer setup old now rose request reply tables

-- at whatever tables the engine rests before it, the request is served
abbrev pub ServesOver : Terms → (before after : Standpoint) → ℤ → Request → List ℕ → Type 0
ServesOver terms before after now request reply = (tables : Tables) → HasTables before tables → Serves (over terms (models_at before)) tables now (KeeperRose before after) request reply after.kept after.held

-- at whatever tables it rests, what is asked for by those who may call over them is served
abbrev pub ServesAsked : Terms → (before after : Standpoint) → ℤ → (Directory → Request) → List ℕ → Type 0
ServesAsked terms before after now asks reply =
    (tables : Tables) → HasTables before tables
    → Serves (over terms (models_at before)) tables now (KeeperRose before after) (asks (directory_of (models_at before) tables)) reply after.kept after.held

-- a moment that a clock may give: the first of those that it tells, where it tells them
abbrev pub MayBeGiven : Option (ℕ → ℤ) → ℤ → Type 0
MayBeGiven coming now = IfSome coming (λ moments. now ≡ moments 0)

-- what a clock told before a body it still tells, but for the moment that the body took
abbrev pub TakesMoment : (before now : Option (ℕ → ℤ)) → (body : List ℕ) → Type 0
TakesMoment before now body = now ≡ option_map (moments_after (envelope_of EveryMethod body)) before

-- the request of a body was served, at a moment that the clock gave
pub record ServesBody (terms : Terms) (old : Tables) (before after : Standpoint) (coming_before coming_now : Option (ℕ → ℤ)) (body reply : List ℕ) : Type 0 where
  pub now : ℤ
  pub given : MayBeGiven coming_before now
  pub serves : Serves (over terms (models_at before)) old now (KeeperRose before after) (asked_by (over terms (models_at before)) old body) reply after.kept after.held
  pub taken : TakesMoment coming_before coming_now body

-- memory was wanting before the body was read: that is told, and nothing else happened
pub record LeavesUnread (old : Tables) (after : Standpoint) (coming_before coming_now : Option (ℕ → ℤ)) (reply : List ℕ) : Type 0 where
  pub told : reply ≡ no_memory_text
  pub rests : HasTables after old
  pub coming : coming_now ≡ coming_before

-- at whatever tables the engine rests before it, the body is answered
abbrev pub AnswersOver : Terms → (before after : Standpoint) → (coming_before coming_now : Option (ℕ → ℤ)) → (body reply : List ℕ) → Type 0
AnswersOver terms before after coming_before coming_now body reply =
    (tables : Tables) → HasTables before tables → ServesBody terms tables before after coming_before coming_now body reply ⊎ LeavesUnread tables after coming_before coming_now reply

-- whatever the keeper tells, the reply to a request has its cause
abbrev pub RepliesBy : Terms → (before after : Standpoint) → ℤ → Request → List ℕ → Type 0
RepliesBy terms before after now request reply = RepliesTo (over terms (models_at before)) (KeeperRose before after) now request reply

-- so has that to what is asked for, whoever may call
abbrev pub RepliesAsked : Terms → (before after : Standpoint) → ℤ → (Directory → Request) → List ℕ → Type 0
RepliesAsked terms before after now asks reply = (directory : Directory) × RepliesBy terms before after now (asks directory) reply

-- and that to a body, at a moment that the clock may have given
pub record RepliesOver (terms : Terms) (before after : Standpoint) (coming_before : Option (ℕ → ℤ)) (body reply : List ℕ) : Type 0 where
  pub now : ℤ
  pub given : MayBeGiven coming_before now
  pub replies : RepliesAsked terms before after now (λ directory. request_of (over terms (models_at before)) directory (envelope_of EveryMethod body)) reply
