-- What one connection asks and what it is answered, by how it ends.
use Rattle.std.specs.Prelude.{◌≡◌, ◌<◌, ◌⊎◌, ℕ, ℤ, Bool, true, false, List, [], ◌∷◌, ◌++◌, length, if◌then◌else◌, Option, Some, Result, Ok, Err, ⊤}
use Rattle.ob_base.specs.Limits.{max_input_bytes}
use Rattle.ob_base.specs.declared.memory.NoMemory.{NoMemory}
use Rattle.ob_cache.specs.Calls.{Standpoint, HasTables, models_at, standpoint}
use Rattle.ob_cache.specs.declared.engine.Engine.{Engine}
use Rattle.ob_http.specs.Connection.{AsksInterim}
use Rattle.ob_http.specs.Item.{Item, post, fault, cut, IsItem, AreItems, goes_on}
use Rattle.ob_http.specs.Reply.{interim_bytes, reply_bytes}
use Rattle.ob_http.specs.Written.{IsCutShort, Wrote}
use Rattle.ob_io.specs.declared.clock.Clock.{Ghosts as ClockGhosts}
use Rattle.ob_io.specs.declared.door.Door.{Ghosts as DoorGhosts}
use Rattle.ob_io.specs.declared.keeper.Keeper.{Ghosts as KeeperGhosts}
use Rattle.ob_server.specs.Machine.{State, Run}
use Rattle.ob_server.specs.Setup.{over}
use Rattle.ob_server.specs.declared.connection.Parting.{Parting}
use Rattle.ob_server.specs.declared.connection.Parting.TheVariants as parting
use Rattle.ob_server.specs.declared.terms.Terms.{Terms}

-- ---- items and their answers

-- the bodies of the messages among items
abbrev pub bodies_in : List Item → List (List ℕ)
bodies_in [] = []
bodies_in (post body keep interim ∷ items) = body ∷ bodies_in items
bodies_in (_ ∷ items) = bodies_in items

-- the interim line, where it is due
abbrev pub interim_if : Bool → List ℕ
interim_if due = if due then interim_bytes else []

-- What items are answered, by the replies to their bodies: a message its reply under status 200, a fault its status, and before that the
-- interim line where it is due. A fault or an end is the last item.
abbrev pub answers_to : List Item → (replies : List (List ℕ)) → List ℕ
answers_to (post body keep interim ∷ items) (reply ∷ replies) = interim_if interim ++ reply_bytes 200 reply keep ++ answers_to items replies
answers_to (fault status ∷ _) replies = reply_bytes status [] false
answers_to (cut interim ∷ _) replies = interim_if interim
answers_to _ replies = []

-- The items are the first of these bytes, and behind them stands the rest: each is a message after which the connection is kept.
abbrev pub AreFirstItems : List ℕ → List Item → (rest : List ℕ) → Type 0
AreFirstItems bytes [] rest = bytes ≡ rest
AreFirstItems bytes (item ∷ items) rest = (behind : List ℕ) × IsItem bytes item behind × (goes_on item ≡ true) × AreFirstItems behind items rest

-- ---- what was taken in and what was written

-- the bodies that were taken in of a connection, the replies that the machine gave to them, and the bytes that were written
pub record Dialogue : Type 0 where
  pub bodies : List (List ℕ)
  pub replies : List (List ℕ)
  pub written : List ℕ

-- all items of these bytes were taken in and answered
pub record AnswersAll (bytes : List ℕ) (dialogue : Dialogue) : Type 0 where
  pub items : List Item
  pub are_items : AreItems bytes items
  pub bodies_are : dialogue.bodies ≡ bodies_in items
  pub written_is : dialogue.written ≡ answers_to items dialogue.replies

-- what the connection had sent until a read failed was taken in and answered as if it had ended there
pub record AnswersRead (stream : List ℕ) (left_now : Option (List ℕ)) (dialogue : Dialogue) : Type 0 where
  pub read : List ℕ
  pub left : List ℕ
  pub stream_is : stream ≡ read ++ left
  pub left_is : left_now ≡ Some left
  pub answers : AnswersAll read dialogue

-- some first items were taken in and answered; behind them stands the rest, and this part was written for it
pub record AnswersFirst (stream : List ℕ) (dialogue : Dialogue) (rest part : List ℕ) : Type 0 where
  pub items : List Item
  pub are_first : AreFirstItems stream items rest
  pub bodies_are : dialogue.bodies ≡ bodies_in items
  pub written_is : dialogue.written ≡ answers_to items dialogue.replies ++ part

-- the interim line before the next message was not written whole, and all answers before it were
pub record CutsInterim (stream : List ℕ) (dialogue : Dialogue) : Type 0 where
  pub rest : List ℕ
  pub part : List ℕ
  pub first : AnswersFirst stream dialogue rest part
  pub due : AsksInterim rest
  pub part_of : IsCutShort part interim_bytes

-- the answer to the last item that was taken in was not written whole, and all before it were
pub record CutsAnswer (stream : List ℕ) (dialogue : Dialogue) : Type 0 where
  pub items : List Item
  pub rest : List ℕ
  pub are_first : AreFirstItems stream items rest
  pub item : Item
  pub behind : List ℕ
  pub is_item : IsItem rest item behind
  pub bodies_are : dialogue.bodies ≡ bodies_in (items ++ item ∷ [])
  pub whole : List (List ℕ)
  pub last : List (List ℕ)
  pub replies_are : dialogue.replies ≡ whole ++ last
  pub part : List ℕ
  pub part_of : IsCutShort part (answers_to (item ∷ []) last)
  pub written_is : dialogue.written ≡ answers_to items whole ++ part

-- some first items were answered; the interim line before the next message may have been, where it is due
pub record WantsMemory (stream : List ℕ) (dialogue : Dialogue) : Type 0 where
  pub rest : List ℕ
  pub part : List ℕ
  pub first : AnswersFirst stream dialogue rest part
  pub part_is : (part ≡ []) ⊎ ((part ≡ interim_bytes) × AsksInterim rest)

-- What of a connection was taken in and answered, by how it ended: all of it; what had come until a read failed, or all but
-- what could not be written; the first items of a stream that is too long; the first ones until memory was wanting.
abbrev pub EndsBy : Parting → (stream : List ℕ) → (left_now : Option (List ℕ)) → Dialogue → Type 0
EndsBy parting.Served stream left_now dialogue = AnswersAll stream dialogue
EndsBy parting.Failed stream left_now dialogue = AnswersRead stream left_now dialogue ⊎ (CutsInterim stream dialogue ⊎ CutsAnswer stream dialogue)
EndsBy parting.TooLong stream left_now dialogue = (max_input_bytes < length stream) × (rest : List ℕ) × AnswersFirst stream dialogue rest []
EndsBy parting.NoMemory stream left_now dialogue = WantsMemory stream dialogue

-- ---- over an engine, a clock and a door

-- what these tell: where the engine stands, the moments that are to come, what the current connection has still to send, and
-- what was written to each connection
pub record Situation : Type 0 where
  pub engine : Standpoint
  pub coming : Option (ℕ → ℤ)
  pub left : Option (List ℕ)
  pub written : Option (List (List ℕ))

module _ {K C D : Type 0} (keeper : KeeperGhosts K) (clock : ClockGhosts C) (door : DoorGhosts D) where
  -- where these stand
  abbrev pub situation : Engine K → C → D → Situation
  situation engine c d = record { engine = standpoint keeper engine; coming = clock.coming c; left = door.left d; written = door.written d }

-- the machine is in this state: the engine rests at its tables, the clock tells its moments, and so often the keeper failed
pub record HasState (now : Situation) (state : State) : Type 0 where
  pub tables : HasTables now.engine state.tables
  pub moments : now.coming ≡ Some state.moments
  pub faults : now.engine.faults ≡ state.faults

-- An exchange over one connection: the machine's replies to the bodies that were taken in, in turn, its state after them, and
-- what was written, by how the connection ended.
pub record Exchange (terms : Terms) (why : Parting) (first : State) (stream : List ℕ) (before now : Situation) : Type 0 where
  pub dialogue : Dialogue
  pub state : State
  pub run : Run (over terms (models_at before.engine)) first dialogue.bodies dialogue.replies state
  pub has_state : HasState now state
  pub wrote : Wrote before.written now.written dialogue.written
  pub ends : EndsBy why stream now.left dialogue

-- how a connection may end that is told so: by a fault only where the door's count rose
abbrev pub MayEndBy : {A : Type 0} → (door_rose : Type 0) → Parting → Result A NoMemory → Type 0
MayEndBy door_rose parting.Failed (Ok _) = door_rose
MayEndBy door_rose parting.NoMemory (Ok _) = ⊥
MayEndBy door_rose parting.NoMemory (Err _) = ⊤
MayEndBy door_rose _ (Ok _) = ⊤
MayEndBy door_rose _ (Err _) = ⊥
