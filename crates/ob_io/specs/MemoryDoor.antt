-- What the doors in memory hold, as contracts see them.
use Rattle.std.specs.Prelude.{◌≡◌, ℕ, ◌+◌, ◌-◌, ◌<◌, nat_lt, min, if◌then◌else◌, List, [], ◌∷◌, length, take, drop}
use Rattle.ob_io.specs.Plan.{Plan}
use Rattle.ob_io.specs.Memory.{Stream}

-- what the connections will send that haven't come, what the current one has still to send, the most
-- of it that one read gives, what was written to each that has come, how many more bytes fit, and how
-- often a write found no room
pub record Streams : Type 0 where
  pub coming : List (List ℕ)
  pub left : List ℕ
  pub cut : ℕ
  pub written : List (List ℕ)
  pub room : ℕ
  pub faults : ℕ

-- the streams of a door, which of its calls fail, and how often `next`, and a read or a write, failed so
pub record PlannedStreams : Type 0 where
  pub streams : Streams
  pub plan : Plan
  pub next_faults : ℕ
  pub faults : ℕ

-- how often reads and writes failed: those that the plan fails and those that found no room
abbrev pub connection_faults : PlannedStreams → ℕ
connection_faults door = door.faults + door.streams.faults

-- the parts of these lengths, one after another
abbrev pub parts_of : List ℕ → List ℕ → List (List ℕ)
parts_of [] bytes = []
parts_of (size ∷ sizes) bytes = take size bytes ∷ parts_of sizes (drop size bytes)

-- what the current connection has still to send, as a stream
abbrev pub current_stream : Streams → Stream
current_stream streams = record { left = streams.left; cut = streams.cut }

-- how many bytes of a piece are taken: all of them where no connection has come
abbrev pub write_count : Streams → ℕ → ℕ
write_count streams size = if nat_lt 0 (length streams.written) then min size streams.room else size

-- no byte of the piece fits, though it has some and a connection has come
pub record IsFullDoor (piece : List ℕ) (streams : Streams) : Type 0 where
  pub some : 0 < length piece
  pub come : 0 < length streams.written
  pub none_fits : streams.room ≡ 0

-- the room after so many bytes were taken
abbrev pub room_after : Streams → ℕ → ℕ
room_after streams n = if nat_lt 0 (length streams.written) then streams.room - n else streams.room
