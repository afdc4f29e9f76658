-- How a store is opened: a new one gets the rows that modules bring before anything is asked of it.
use Rattle.std.specs.Prelude.{◌≡◌, ◌≤◌, ◌⊎◌, ℕ, ℤ, List, ◌++◌, codes, slice_get, Option, Some, IfSome, option_map, ⊤}
use Rattle.ob_base.specs.declared.refusal.Broken.{Broken}
use Rattle.ob_cache.specs.Kept.{OthersStay}
use Rattle.ob_io.specs.Cause.{Rose}
use Rattle.ob_io.specs.Moments.{later}
use Rattle.ob_io.specs.Store.{Store}
use Rattle.ob_install.specs.Install.{IsInstalled, IsRefused, course}
use Rattle.ob_schema.specs.Tables.{Tables, empty_tables}
use Rattle.ob_schema.specs.declared.info.ModelInfo.{ModelInfo}
use Rattle.ob_schema.specs.declared.preset.PresetRow.{PresetRow}
use Rattle.ob_server.specs.Outside.{Doorway, Surroundings}
use Rattle.ob_server.specs.Reception.{Reception}
use Rattle.ob_server.specs.Session.{Session, StandsFor}
use Rattle.ob_server.specs.Setup.{Setup}
use Rattle.ob_server.specs.declared.ending.Ending.{Ending}
use Rattle.ob_server.specs.declared.ending.Ending.TheVariants as ending

-- a moment is the next that a clock tells, where it tells them, and the later ones are still to come
pub record TakesMoment (moment : ℤ) (before now : Option (ℕ → ℤ)) : Type 0 where
  pub next : IfSome before (λ moments. moment ≡ moments 0)
  pub rest : now ≡ option_map later before

-- how a row is told that isn't made
abbrev pub row_text : PresetRow → List ℕ
row_text row = codes "module " ++ row.module ++ codes ": Preset " ++ row.place

module _ (models : List ModelInfo) (preset : List PresetRow) where
  -- a new store got the rows that modules bring, made at the next moment
  pub record IsFilled (first begun : Tables) (coming coming_now : Option (ℕ → ℤ)) : Type 0 where
    pub new : first ≡ empty_tables models
    pub moment : ℤ
    pub takes : TakesMoment moment coming coming_now
    pub rows : IsInstalled models moment preset begun

  -- one that isn't new stayed as it was, and no moment was taken
  pub record IsLeft (first begun : Tables) (coming coming_now : Option (ℕ → ℤ)) : Type 0 where
    pub old : first ≡ empty_tables models → ⊥
    pub rows : begun ≡ first
    pub unasked : coming_now ≡ coming

  -- the tables from which requests are answered, by those for which the store stands
  abbrev pub Begins : (first begun : Tables) → (coming coming_now : Option (ℕ → ℤ)) → Type 0
  Begins first begun coming coming_now = IsFilled first begun coming coming_now ⊎ IsLeft first begun coming coming_now

  -- a store was opened: what is kept stands for the tables from which requests are answered; rows of other models stay
  pub record Opening (first begun : Tables) (before now : Surroundings) : Type 0 where
    pub begins : Begins first begun before.coming now.coming
    pub store : Store
    pub kept_is : now.kept ≡ Some store
    pub stands : StandsFor models begun store
    pub written : now.written ≡ before.written
    pub others : OthersStay models before.kept now.kept
    pub count : before.faults ≤ now.faults

  -- a row that modules bring is told that would break something, or whose parent would
  pub record TellsRow (moment : ℤ) (line : List ℕ) : Type 0 where
    pub number : ℕ
    pub broken : Broken
    pub refused : IsRefused models (course models moment preset) number broken
    pub row : PresetRow
    pub row_is : slice_get preset number ≡ Some row
    pub told : line ≡ row_text row

  -- what an opening ends with where the rows aren't made at this moment
  abbrev pub StopsFilling : ℤ → (rose : Type 0) → Ending → Type 0
  StopsFilling moment rose (ending.Module line) = TellsRow moment line
  StopsFilling moment rose ending.KeeperFault = rose
  StopsFilling moment rose ending.NoMemory = ⊤
  StopsFilling moment rose _ = ⊥

-- what it ends with where it isn't known whether the store is new
abbrev pub StopsAsking : (rose : Type 0) → Ending → Type 0
StopsAsking rose ending.KeeperFault = rose
StopsAsking rose ending.NoMemory = ⊤
StopsAsking rose _ = ⊥

module _ (models : List ModelInfo) (preset : List PresetRow) (why : Ending) where
  -- a new store doesn't get the rows at the moment that was taken
  pub record FailsFilling (first : Tables) (rose : Type 0) (coming coming_now : Option (ℕ → ℤ)) : Type 0 where
    pub new : first ≡ empty_tables models
    pub moment : ℤ
    pub takes : TakesMoment moment coming coming_now
    pub stops : StopsFilling models preset moment rose why

  -- an opening stops: it isn't known whether the store is new, and no moment was taken; or a new one doesn't get the rows
  abbrev pub StopsUnfilled : (first : Tables) → (rose : Type 0) → (coming coming_now : Option (ℕ → ℤ)) → Type 0
  StopsUnfilled first rose coming coming_now = (StopsAsking rose why × (coming_now ≡ coming)) ⊎ FailsFilling first rose coming coming_now

  -- so it stops; what is kept and what was written stay
  pub record IsStopped (first : Tables) (before now : Surroundings) : Type 0 where
    pub stops : StopsUnfilled first (Rose before.faults now.faults) before.coming now.coming
    pub kept : now.kept ≡ before.kept
    pub written : now.written ≡ before.written

module _ (setup : Setup) (preset : List PresetRow) (first : Tables) (why : Ending) where
  -- lines were served over a store of these tables, from those on that it then had; or nothing was read, since the opening stopped
  abbrev pub ServesLines : (left left_now : Option (List ℕ)) → (before now : Surroundings) → Type 0
  ServesLines left left_now before now =
      (IsStopped setup.models preset why first before now × (left_now ≡ left))
      ⊎ ((begun : Tables) × (opened : Surroundings) × Opening setup.models preset first begun before opened × Session setup begun why left left_now opened now)

  -- connections were served over it so, by the moments that were still to come; or none was let in
  abbrev pub ServesDoor : (limit : ℕ) → (door door_now : Doorway) → (before now : Surroundings) → Type 0
  ServesDoor limit door door_now before now =
      (IsStopped setup.models preset why first before now × (door_now ≡ door))
      ⊎ ((begun : Tables) × (opened : Surroundings) × (moments : ℕ → ℤ) × Opening setup.models preset first begun before opened × (opened.coming ≡ Some moments)
      × Reception setup begun why limit moments door door_now opened now)
