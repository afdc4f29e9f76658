-- What all objects of a run tell of themselves, each where it does.
use Rattle.std.specs.Prelude.{ℕ, List, Option}
use Rattle.ob_io.specs.declared.clock.Clock.{Ghosts as OfClock}
use Rattle.ob_io.specs.declared.files.Files.{Ghosts as OfFiles}
use Rattle.ob_io.specs.declared.keeper.Keeper.{Ghosts as OfKeeper}
use Rattle.ob_io.specs.declared.sink.Sink.{Ghosts as OfSink}
use Rattle.ob_io.specs.declared.source.Source.{Ghosts as OfSource}
use Rattle.ob_server.specs.Outside.{Doorway, Surroundings, surroundings}

-- what all objects of a run tell: what the files hold, what the source has left, and what the door tells beside these; and how often the files, the source and the sink failed
pub record Outside : Type 0 where
  pub texts : Option (List ℕ → Option (List ℕ))
  pub left : Option (List ℕ)
  pub door : Doorway
  pub standing : Surroundings
  pub file_faults : ℕ
  pub source_faults : ℕ
  pub sink_faults : ℕ

module _ {K W C F S : Type 0} (keepers : OfKeeper K) (sinks : OfSink W) (clocks : OfClock C) (folders : OfFiles F) (sources : OfSource S) where
  -- what all of these tell, beside a door
  abbrev pub outside : F → K → S → W → C → Doorway → Outside
  outside files keeper input output clock door = record {
    texts = folders.texts files;
    left = sources.left input;
    door = door;
    standing = surroundings keepers sinks clocks keeper output clock;
    file_faults = folders.faults files;
    source_faults = sources.faults input;
    sink_faults = sinks.faults output;
  }
