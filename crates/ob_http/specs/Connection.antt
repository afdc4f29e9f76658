-- What a connection shows between two calls, and what one call does to it.
use Rattle.std.specs.Prelude.{◌≡◌, ℕ, ◌+◌, ◌-◌, ◌^◌, min, List, [], ◌++◌, length, true, Option, Some, IfSome, option_map, if◌then◌else◌}
use Rattle.ob_http.specs.declared.inlet.Inlet.{Inlet}
use Rattle.ob_http.specs.Item.{Item, IsItem, TellsItem, goes_on, is_end, is_interim_due}
use Rattle.ob_http.specs.Reply.{interim_bytes}
use Rattle.ob_http.specs.Written.{Wrote, WrotePart}

-- the bytes that were read beyond a message, and how many were read so far, up to the greatest u64
pub record ReadAhead : Type 0 where
  pub bytes : List ℕ
  pub taken : ℕ

-- a connection: what was read ahead of it, what it has still to send, and what was written to every
-- connection, the last of them this one; the door may not tell the last two
pub record Connection : Type 0 where
  pub ahead : ReadAhead
  pub left : Option (List ℕ)
  pub written : Option (List (List ℕ))

-- the connection of what was read ahead and of what the door tells
abbrev pub connection_of : ReadAhead → Option (List ℕ) → Option (List (List ℕ)) → Connection
connection_of ahead left written = record { ahead = ahead; left = left; written = written }

-- the bytes that are to come, from what was read ahead on, where the door tells
abbrev pub coming_bytes : Connection → Option (List ℕ)
coming_bytes c = option_map (λ left. c.ahead.bytes ++ left) c.left

-- so many bytes more, up to the greatest u64
abbrev pub more_taken : ℕ → ℕ → ℕ
more_taken taken n = min (taken + n) (2 ^ 64 - 1)

-- the connection sent this part, which was counted
pub record Sent (before now : Connection) (part : List ℕ) : Type 0 where
  pub left : before.left ≡ option_map (λ left. part ++ left) now.left
  pub taken : now.ahead.taken ≡ more_taken before.ahead.taken (length part)

-- the connection sent this part, and nothing was written to it
pub record ReadsOn (before now : Connection) (part : List ℕ) : Type 0 where
  pub sent : Sent before now part
  pub written : now.written ≡ before.written

-- the next item came in: the interim line was written where it is due, and after a message what
-- stands behind it is still to come
pub record Receives (before now : Connection) (bytes : List ℕ) (inlet : Inlet) : Type 0 where
  pub item : Item
  pub rest : List ℕ
  pub is_item : IsItem bytes item rest
  pub told : TellsItem inlet item
  pub interim : Wrote before.written now.written (if is_interim_due item then interim_bytes else [])
  pub rest_comes : goes_on item ≡ true → coming_bytes now ≡ Some rest

-- A read failed: had the connection ended there, there would be no whole message, and no fault. The
-- interim line was written where it is due.
pub record FailsReading (before now : Connection) (part : List ℕ) : Type 0 where
  pub item : Item
  pub is_item : IsItem (before.ahead.bytes ++ part) item []
  pub no_message : is_end item ≡ true
  pub interim : Wrote before.written now.written (if is_interim_due item then interim_bytes else [])

-- the interim line was due, and writing it failed
pub record FailsWriting (before now : Connection) (bytes : List ℕ) : Type 0 where
  pub item : Item
  pub rest : List ℕ
  pub is_item : IsItem bytes item rest
  pub due : is_interim_due item ≡ true
  pub written : WrotePart before.written now.written interim_bytes

-- the interim line is due before the reply to what these bytes begin with
pub record AsksInterim (bytes : List ℕ) : Type 0 where
  pub item : Item
  pub rest : List ℕ
  pub is_item : IsItem bytes item rest
  pub due : is_interim_due item ≡ true

-- the interim line was written, once and whole, and was due
pub record WritesInterim (before now : Connection) : Type 0 where
  pub written : Wrote before.written now.written interim_bytes
  pub due : IfSome (coming_bytes before) (λ bytes. AsksInterim bytes)
