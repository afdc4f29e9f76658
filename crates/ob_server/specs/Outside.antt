-- What the objects of a run tell of themselves, each where it does.
use Rattle.std.specs.Prelude.{ℕ, ℤ, List, Option}
use Rattle.ob_cache.specs.Standing.{Holding}
use Rattle.ob_cache.specs.declared.engine.Engine.{Engine}
use Rattle.ob_io.specs.Store.{Store}
use Rattle.ob_io.specs.declared.clock.Clock.{Ghosts as OfClock}
use Rattle.ob_io.specs.declared.door.Door.{Ghosts as OfDoor}
use Rattle.ob_io.specs.declared.keeper.Keeper.{Ghosts as OfKeeper}
use Rattle.ob_io.specs.declared.sink.Sink.{Ghosts as OfSink}

-- what the keeper, the clock and the sink tell: the rows that are kept, the moments that are to come, and what was written; and how often the keeper failed
pub record Surroundings : Type 0 where
  pub faults : ℕ
  pub kept : Option Store
  pub coming : Option (ℕ → ℤ)
  pub written : Option (List ℕ)

-- where a session stands, by what these tell and what its engine holds
pub record Engaged : Type 0 where
  pub now : Surroundings
  pub held : Holding

-- what a door tells: what the connections will send that haven't come, what was written to those that have, and how often `next`,
-- and reads and writes, failed
pub record Doorway : Type 0 where
  pub coming : Option (List (List ℕ))
  pub written : Option (List (List ℕ))
  pub next_faults : ℕ
  pub faults : ℕ

module _ {D : Type 0} (doors : OfDoor D) where
  -- what this one tells
  abbrev pub doorway : D → Doorway
  doorway door = record { coming = doors.coming door; written = doors.written door; next_faults = doors.next_faults door; faults = doors.faults door }

module _ {K W C : Type 0} (keepers : OfKeeper K) (sinks : OfSink W) (clocks : OfClock C) where
  -- what these tell
  abbrev pub surroundings : K → W → C → Surroundings
  surroundings keeper output clock =
      record { faults = keepers.faults keeper; kept = keepers.kept keeper; coming = clocks.coming clock; written = sinks.written output }

  -- where a session over them stands
  abbrev pub engaged : Engine K → W → C → Engaged
  engaged engine output clock = record { now = surroundings engine.keeper.now output clock; held = engine.held }
