-- Why a new store doesn't get its rows, by how the run ends then; and what it has where it does.
use Rattle.std.proofs.Common.{◌≡◌, ℕ, ℤ, true, false, List, Option, Some, None, Result, Ok, Err, refl, sym, ◌∙◌, subst, inl, inr}
use Rattle.std.specs.Prelude.{◌↔◌, IfSome, IsSomeAnd, IsTrue, OnOk, option_map, slice_get}
use Rattle.std.proofs.lemmas.Bool.{false≢true}
use Rattle.ob_base.specs.declared.refusal.Broken.{Broken}
use Rattle.ob_cache.specs.Calls.{HasTables, Standpoint}
use Rattle.ob_cache.specs.Stages.{resting}
use Rattle.ob_cache.specs.Standing.{Holding, RestsAt, Stands, Stays}
use Rattle.ob_io.specs.Moments.{later}
use Rattle.ob_io.specs.Store.{Store}
use Rattle.ob_install.specs.Install.{IsInstalled, IsRefused, RefusesRows, course}
use Rattle.ob_install.specs.declared.installing.InstallFault.{InstallFault}
use Rattle.ob_install.specs.declared.installing.InstallFault.TheVariants as install
use Rattle.ob_schema.specs.Tables.{Tables, empty_tables}
use Rattle.ob_schema.specs.declared.info.ModelInfo.{ModelInfo}
use Rattle.ob_schema.specs.declared.preset.PresetRow.{PresetRow}
use Rattle.ob_server.specs.Opening.{Begins, StopsFilling}
use Rattle.ob_server.specs.OpeningSteps.{IsFillingEnding, IsRowEnding}
use Rattle.ob_server.specs.declared.ending.Ending.{Ending}
use Rattle.ob_server.specs.declared.ending.Ending.TheVariants as ending

module _ (models : List ModelInfo) (preset : List PresetRow) (moment : ℤ) (rose : Type 0) where
  -- a row that is refused is told
  row_told : (n : ℕ) (b : Broken) → IsRefused models (course models moment preset) n b → (row : PresetRow) → slice_get preset n ≡ Some row → (why : Ending) → IsRowEnding row why → StopsFilling models preset moment rose why
  row_told n b refused row is (ending.Module line) told = record { number = n; broken = b; refused = refused; row = row; row_is = is; told = told }
  row_told n b refused row is ending.NoMemory told = tt
  row_told n b refused row is ending.Done told = absurd told
  row_told n b refused row is ending.Differs told = absurd told
  row_told n b refused row is ending.Usage told = absurd told
  row_told n b refused row is ending.ReadFault told = absurd told
  row_told n b refused row is ending.WriteFault told = absurd told
  row_told n b refused row is ending.KeeperFault told = absurd told
  row_told n b refused row is (ending.Store cell) told = absurd told
  row_told n b refused row is (ending.TooLong number) told = absurd told

  row_found : (n : ℕ) (b : Broken) → IsRefused models (course models moment preset) n b → (o : Option PresetRow) → slice_get preset n ≡ o → (why : Ending) → IsSomeAnd o (λ row. IsRowEnding row why)
      → StopsFilling models preset moment rose why
  row_found n b refused None is why told = absurd told
  row_found n b refused (Some row) is why told = row_told n b refused row is why told

  -- why rows aren't made is how the run ends
  pub filling_told : (fault : InstallFault) (why : Ending) → RefusesRows rose (IsRefused models (course models moment preset)) fault → IsFillingEnding preset fault why → StopsFilling models preset moment rose why
  filling_told install.Keeper why refuses ends = subst (λ (w : Ending). StopsFilling models preset moment rose w) (sym ends) refuses
  filling_told (install.Refused n b) why refuses ends = row_found n b refuses (slice_get preset n) refl why ends
  filling_told install.NoMemory why refuses ends = subst (λ (w : Ending). StopsFilling models preset moment rose w) (sym ends) tt

module _ (a b : Option Store) (old new : Holding) (stays : Stays a old b new) where
  -- an engine that was asked rests at the tables at which it rested
  pub rests_on : (tables : Tables) → RestsAt a old tables → RestsAt b new tables
  rests_on tables rests = subst (λ (models : List ModelInfo). Stands b new (resting models tables)) (sym stays.models) (stays.stands (resting old.models tables) rests)

-- a moment that a clock gave is its next
gives_next : (moment moment' : ℤ) (coming : Option (ℕ → ℤ)) → moment' ≡ moment → IfSome coming (λ moments. moment ≡ moments 0) → IfSome coming (λ moments. moment' ≡ moments 0)
gives_next moment moment' None is told = tt
gives_next moment moment' (Some moments) is told = is ∙ told

-- what holds behind an answer, by what does
pub ok_weaker : {T E P Q : Type 0} (r : Result T E) → (P → Q) → OnOk r P → OnOk r Q
ok_weaker (Ok x) f held = f held
ok_weaker (Err e) f held = tt

module _ (a b : Option Store) (old new : Holding) (stays : Stays a old b new) (preset : List PresetRow) (coming coming_now : Option (ℕ → ℤ)) where
  -- a store that is new is filled at the next moment
  pub filled_begins : (moment moment' : ℤ) (after : Standpoint) → ((tables : Tables) → RestsAt a old tables → IsTrue true ↔ (tables ≡ empty_tables old.models))
      → moment' ≡ moment → IfSome coming (λ moments. moment ≡ moments 0) → coming_now ≡ option_map later coming
      → ((first : Tables) → RestsAt b new first → (begun : Tables) × IsInstalled new.models moment' preset begun × HasTables after begun)
      → (first : Tables) → RestsAt a old first → (begun : Tables) × Begins old.models preset first begun coming coming_now × HasTables after begun
  filled_begins moment moment' after told is next rest brought = λ first rests.
      let made = brought first (rests_on a b old new stays first rests) in (
        made.0,
        inl (record {
          new = (told first rests).0 refl;
          moment = moment';
          takes = record { next = gives_next moment moment' coming is next; rest = rest };
          rows = subst (λ (models : List ModelInfo). IsInstalled models moment' preset made.0) stays.models made.1;
        }),
        made.2,
      )

  -- another one is left as it is
  pub left_begins : ((tables : Tables) → RestsAt a old tables → IsTrue false ↔ (tables ≡ empty_tables old.models))
      → (first : Tables) → RestsAt a old first → (begun : Tables) × Begins old.models preset first begun coming coming × RestsAt b new begun
  left_begins told = λ first rests. (first, inr (record { old = λ is. absurd (false≢true ((told first rests).1 is)); rows = refl; unasked = refl }), rests_on a b old new stays first rests)
