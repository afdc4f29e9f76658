-- What the objects in memory hold, as contracts see them.
use Rattle.std.specs.Prelude.{◌≡◌, ℕ, zero, suc, ◌+◌, ◌<◌, min, List, length, if◌then◌else◌, ℤ, ◌+ℤ◌}
use Rattle.ob_base.specs.Times.{is_moment}
use Rattle.ob_io.specs.Plan.{Plan}

-- the bytes still to come, and the most of them that one read gives
pub record Stream : Type 0 where
  pub left : List ℕ
  pub cut : ℕ

-- a stream, and which of its reads fail
pub record PlannedStream : Type 0 where
  pub stream : Stream
  pub plan : Plan

-- how many bytes a read into a room of this length gives
abbrev pub read_count : Stream → ℕ → ℕ
read_count stream room = min stream.cut (min room (length stream.left))

-- the bytes that were written, how many more fit, and how often a write found no room
pub record Buffer : Type 0 where
  pub written : List ℕ
  pub room : ℕ
  pub faults : ℕ

-- a buffer, and which of its writes fail
pub record PlannedBuffer : Type 0 where
  pub buffer : Buffer
  pub plan : Plan

-- how often writes failed: those that the plan fails and those that found no room
abbrev pub total_faults : PlannedBuffer → ℕ
total_faults sink = sink.plan.faults + sink.buffer.faults

-- the same bytes are written, and as many more fit
pub record SameBytes (before now : Buffer) : Type 0 where
  pub written : now.written ≡ before.written
  pub room : now.room ≡ before.room

-- no byte of the piece fits, though it has some
pub record IsFullFor (piece : List ℕ) (buffer : Buffer) : Type 0 where
  pub some : 0 < length piece
  pub none_fits : buffer.room ≡ 0

-- the next moment of a clock, and the seconds from one to the next
pub record Ticks : Type 0 where
  pub moment : ℤ
  pub step : ℤ

-- a step on from this moment, or the moment itself where that leads out of the years 0001 to 9999
abbrev pub next_moment : (step moment : ℤ) → ℤ
next_moment step moment = if is_moment (moment +ℤ step) then moment +ℤ step else moment

-- the moments from this one on
abbrev pub moments_from : (step moment : ℤ) → ℕ → ℤ
moments_from step moment zero = moment
moments_from step moment (suc k) = moments_from step (next_moment step moment) k
