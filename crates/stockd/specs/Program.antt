-- What a run of the program does to the objects that it is handed, by its status.
use Rattle.std.specs.Prelude.{◌≡◌, ℕ, ℤ, ◌≤◌, ◌⊎◌, ◌++◌, List, Option, Some, None, IsSomeAnd, option_map}
use Rattle.ob_cache.specs.Kept.{OthersStay}
use Rattle.ob_io.specs.Cause.{Rose}
use Rattle.ob_io.specs.Store.{Store}
use Rattle.ob_load.specs.Loading.{IsLoaded}
use Rattle.ob_load.specs.Texts.{AgreesWith, FileTexts, text_in}
use Rattle.ob_words.specs.Values.{Action, audit, call, serve}
use Rattle.ob_words.specs.Words.{Asked, AsksForAudit, Command}
use Rattle.ob_schema.specs.Tables.{Tables, empty_tables}
use Rattle.ob_schema.specs.declared.preset.PresetRow.{PresetRow}
use Rattle.ob_server.specs.declared.ending.Ending.{Ending}
use Rattle.ob_server.specs.declared.ending.Ending.TheVariants as ending
use Rattle.ob_server.specs.Ending.{status_of, last_line, WritesLast}
use Rattle.ob_server.specs.Opening.{Opening, StopsFilling, TakesMoment}
use Rattle.ob_server.specs.Outside.{Surroundings}
use Rattle.ob_server.specs.Session.{StandsFor, Session}
use Rattle.ob_server.specs.Setup.{Setup}
use Rattle.ob_server.specs.Reception.{Reception}
use Rattle.stockd.specs.Outside.{Outside}
use Rattle.stockd.specs.Audit.{TellsReport}
use Rattle.stockd.specs.Store.{EndsLoading, EndsOpening}

-- the modules that are asked for have these models, say who may ask for what, and bring these rows, in texts that the files tell, where they do; and the database is the one that is asked for
pub record AreLoadedBy (command : Command) (told : Option FileTexts) (setup : Setup) (preset : List PresetRow) : Type 0 where
  pub texts : FileTexts
  pub agrees : AgreesWith told texts
  pub loaded : IsLoaded (text_in texts command.folder) command.names setup.models setup.policy preset
  pub database : setup.database ≡ command.database

-- nothing was read, written or taken from the clock, and what is kept stays
pub record IsUntouched (left_before left_now : Option (List ℕ)) (before now : Surroundings) : Type 0 where
  pub left : left_now ≡ left_before
  pub kept : now.kept ≡ before.kept
  pub coming : now.coming ≡ before.coming
  pub written : now.written ≡ before.written

-- the modules weren't loaded: nothing else was touched
pub record Unloaded (command : Command) (why : Ending) (before after : Outside) : Type 0 where
  pub texts : FileTexts
  pub agrees : AgreesWith before.texts texts
  pub stops : EndsLoading (text_in texts command.folder) command.names (Rose before.file_faults after.file_faults) why
  pub same : IsUntouched before.left after.left before.standing after.standing

-- the store wasn't opened: nothing was read, written or taken from the clock, and what is kept stays
pub record Stopped (command : Command) (why : Ending) (store : Store) (before after : Outside) : Type 0 where
  pub setup : Setup
  pub preset : List PresetRow
  pub loaded : AreLoadedBy command before.texts setup preset
  pub stops : EndsOpening setup.models store (Rose before.standing.faults after.standing.faults) why
  pub same : IsUntouched before.left after.left before.standing after.standing

-- a new store didn't get the rows that modules bring: nothing was read or written, what is kept stays, and a moment was taken from the clock
pub record Unfilled (command : Command) (why : Ending) (store : Store) (before after : Outside) : Type 0 where
  pub setup : Setup
  pub preset : List PresetRow
  pub loaded : AreLoadedBy command before.texts setup preset
  pub new : StandsFor setup.models (empty_tables setup.models) store
  pub moment : ℤ
  pub takes : TakesMoment moment before.standing.coming after.standing.coming
  pub stops : StopsFilling setup.models preset moment (Rose before.standing.faults after.standing.faults) why
  pub same : IsUntouched before.left after.left (record before.standing { coming = after.standing.coming }) after.standing

-- a store that stands for sound tables was opened, and a session served from those on that it then had, which ends with a fault of reading only where the source failed
pub record Opened (command : Command) (why : Ending) (store : Store) (before after : Outside) : Type 0 where
  pub setup : Setup
  pub preset : List PresetRow
  pub loaded : AreLoadedBy command before.texts setup preset
  pub first : Tables
  pub stands : StandsFor setup.models first store
  pub begun : Tables
  pub opened : Surroundings
  pub opening : Opening setup.models preset first begun before.standing opened
  pub session : Session setup begun why before.left after.left opened after.standing
  pub read_fault : why ≡ ending.ReadFault → Rose before.source_faults after.source_faults

-- the store wasn't opened, or a new one didn't get its rows
abbrev pub EndsBefore : Command → Ending → Store → (before after : Outside) → Type 0
EndsBefore command why store before after = Stopped command why store before after ⊎ Unfilled command why store before after

-- what `call` did up to its last line
abbrev pub EndsCall : Command → Ending → Store → (before after : Outside) → Type 0
EndsCall command why store before after = Unloaded command why before after ⊎ (EndsBefore command why store before after ⊎ Opened command why store before after)

-- the rows were audited: nothing was read or taken from the clock, what is kept stays, and of the report this was written
pub record Audited (command : Command) (why : Ending) (store : Store) (before after : Outside) : Type 0 where
  pub setup : Setup
  pub preset : List PresetRow
  pub loaded : AreLoadedBy command before.texts setup preset
  pub written : List ℕ
  pub tells : TellsReport setup.models store (Rose before.standing.faults after.standing.faults) why written
  pub same : IsUntouched before.left after.left (record before.standing { written = option_map (λ w. w ++ written) before.standing.written }) after.standing

-- what `audit` did up to its last line
abbrev pub EndsAudit : Command → Ending → Store → (before after : Outside) → Type 0
EndsAudit command why store before after = Unloaded command why before after ⊎ Audited command why store before after

-- a store that stands for sound tables was opened, and connections were served from those on that it then had, by the moments that were still to come;
-- nothing was read or written elsewhere
pub record Received (command : Command) (why : Ending) (store : Store) (before after : Outside) : Type 0 where
  pub setup : Setup
  pub preset : List PresetRow
  pub loaded : AreLoadedBy command before.texts setup preset
  pub first : Tables
  pub stands : StandsFor setup.models first store
  pub begun : Tables
  pub opened : Surroundings
  pub opening : Opening setup.models preset first begun before.standing opened
  pub moments : ℕ → ℤ
  pub moments_are : opened.coming ≡ Some moments
  pub reception : Reception setup begun why command.limit moments before.door after.door opened after.standing
  pub left : after.left ≡ before.left
  pub written : after.standing.written ≡ before.standing.written

-- what `serve` did up to its last line
abbrev pub EndsServe : Command → Ending → Store → (before after : Outside) → Type 0
EndsServe command why store before after =
    (Unloaded command why before after × (after.door ≡ before.door))
    ⊎ ((EndsBefore command why store before after × (after.door ≡ before.door)) ⊎ Received command why store before after)

-- what a run did up to its last line, by its action; serving, where the door tells what connections will send and the clock its moments
abbrev pub EndsAction : Action → Command → Ending → Store → (before after : Outside) → Type 0
EndsAction call command why store before after = EndsCall command why store before after
EndsAction serve command why store before after =
    (streams : List (List ℕ)) (moments : ℕ → ℤ) → before.door.coming ≡ Some streams → before.standing.coming ≡ Some moments → EndsServe command why store before after
EndsAction audit command why store before after = EndsAudit command why store before after

-- what is kept stays; or of rows under numbers that no model of the modules has all do
abbrev pub KeepsOthers : Command → (texts : Option FileTexts) → (before now : Option Store) → Type 0
KeepsOthers command texts before now = (now ≡ before) ⊎ ((setup : Setup) × (preset : List PresetRow) × AreLoadedBy command texts setup preset × OthersStay setup.models before now)

-- what a run told before its last line was written
abbrev pub before_last : Outside → (written : Option (List ℕ)) → (sink_faults : ℕ) → Outside
before_last after written sink_faults = record after { sink_faults = sink_faults; standing = record after.standing { written = written } }

-- a run over this store: what it did up to its last line, and then that line
pub record RunsOver (command : Command) (store : Store) (before after : Outside) (status : ℕ) : Type 0 where
  pub why : Ending
  pub status_is : status ≡ status_of why
  pub written : Option (List ℕ)
  pub sink_faults : ℕ
  pub done : EndsAction command.action command why store before (before_last after written sink_faults)
  pub since : before.sink_faults ≤ sink_faults
  pub last : WritesLast (Rose sink_faults after.sink_faults) written after.standing.written (last_line why)

-- A run over a keeper that tells its rows, by its status: over modules that load an audit, or over a store that could be
-- opened a session or connections, else nothing; then the last line, which says why. Each other object is spoken of where it tells
-- what it holds: files their texts, the source what it has left, the clock its moments, the sink what was written.
abbrev pub Runs : Command → (before after : Outside) → ℕ → Type 0
Runs command before after status = (store : Store) → before.standing.kept ≡ Some store → RunsOver command store before after status

-- When each status may come, whatever the objects tell: 1 for an audit alone; 2 for words that ask for nothing that is served alone,
-- which get it, or 7 where memory is wanting; 4, 5 and 6 only where the count of the files, the source or the door's `next`, the sink
-- and the keeper rose.
pub record HasCauses (asked : Option Asked) (before after : Outside) (status : ℕ) : Type 0 where
  pub ending : Ending
  pub status_is : status ≡ status_of ending
  pub differs : status ≡ 1 → IsSomeAnd asked AsksForAudit
  pub usage : status ≡ 2 → asked ≡ None
  pub other_words : asked ≡ None → (status ≡ 2) ⊎ (status ≡ 7)
  pub read_fault : status ≡ 4 → Rose before.file_faults after.file_faults ⊎ (Rose before.source_faults after.source_faults ⊎ Rose before.door.next_faults after.door.next_faults)
  pub write_fault : status ≡ 5 → Rose before.sink_faults after.sink_faults
  pub keeper_fault : status ≡ 6 → Rose before.standing.faults after.standing.faults
