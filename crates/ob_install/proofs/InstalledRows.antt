-- Rows that modules bring, once they are placed: what is refused of them, and that they are made.
use Rattle.std.proofs.Common.{◌≡◌, ℕ, ℤ, zero, suc, [], List, length, Option, None, Result, Ok, Err, is_some, refl, sym, ap, subst, ◌∙◌, ◌⊎◌, inl, inr, arith}
use Rattle.std.specs.Prelude.{IfErr, IfOk, IsSome, MatchResult, OnErr, OnOk}
use Rattle.std.proofs.lemmas.Bool.{false≢true}
use Rattle.std.proofs.lemmas.List.{take_all}
use Rattle.ob_base.specs.declared.id.Cell.{Cell}
use Rattle.ob_base.specs.declared.id.RowKey.{RowKey}
use Rattle.ob_base.specs.declared.refusal.Broken.{Broken}
use Rattle.ob_base.specs.declared.refusal.BrokenKind.{BrokenKind}
use Rattle.ob_base.specs.declared.refusal.BrokenKind.TheVariants as kind
use Rattle.ob_install.proofs.PlacedRows.{edits-all}
use Rattle.ob_install.proofs.RowOwners.{made-owner, owner-made, row_key, unmade-absent}
use Rattle.ob_install.specs.Install.{Course, InstallsOver, IsForbidden, IsInstalled, IsMadeFor, IsRefused, RefusesRows, course, course_by, installed}
use Rattle.ob_install.specs.InstallSteps.{Finds, IsFound, IsWhole, TellsOwner, course_of}
use Rattle.ob_cache.specs.Calls.{HasTables, KeeperRose, Standpoint, models_at}
use Rattle.ob_cache.specs.Stages.{resting}
use Rattle.ob_cache.specs.Standing.{Holding, RestsAt, Stands, Stays}
use Rattle.ob_io.specs.Store.{Store}
use Rattle.ob_orm.specs.NewRowSteps.{HoldsNextIds, so_far}
use Rattle.ob_rows.specs.declared.author.Author.{Author}
use Rattle.ob_orm.specs.declared.making.next_ids.Making.{Making}
use Rattle.ob_install.specs.declared.installing.InstallFault.{InstallFault}
use Rattle.ob_install.specs.declared.installing.InstallFault.TheVariants as fault
use Rattle.ob_install.specs.declared.installing.placing.Placed.{Placed}
use Rattle.ob_schema.specs.Broken.{BreaksAs, IsBroken, Sound}
use Rattle.ob_schema.specs.Models.{model_at}
use Rattle.ob_schema.specs.Tables.{Tables, empty_tables, row_at}
use Rattle.ob_schema.specs.declared.info.ModelInfo.{ModelInfo}
use Rattle.ob_schema.specs.declared.preset.PresetRow.{PresetRow}
use Rattle.ob_tables.proofs.CallerLemmas.{told_and}
use Rattle.ob_tables.specs.After.{after}

-- what is known of an answer, where it was handed on
pub handed_on : {X E : Type 0} (F : Type 0) (r : Result X E) (x : X) (P : X → Type 0) → MatchResult r (λ y. ◌≡◌ {A = Result X F} (Ok x) (Ok y)) (λ _. ⊥) → IfOk r P → P x
handed_on F (Ok y) x P same known = subst P (let e : y ≡ x = cc in e) known
handed_on F (Err e) x P same known = absurd same

-- the row of a cell that is broken is there
pub broken-there : (models : List ModelInfo) (tables : Tables) (b : Broken) → IsBroken models tables b → IsSome (row_at tables b.cell.model b.cell.id)
broken-there models tables b = by b.kind b.cell where
  by : (k : BrokenKind) (cell : Cell) → BreaksAs models tables k cell → IsSome (row_at tables cell.model cell.id)
  by kind.Required cell h = h.0
  by kind.MissingRef cell h = h.0
  by kind.Unique cell h = h.0
  by kind.Tree cell h = h.1
  by kind.Depth cell h = h.1
  by kind.Limit cell (inl h) = h.0
  by kind.Limit cell (inr h) = h.0
  by kind.Overflow cell h = h.1.0
  by kind.TooLong cell h = h.1.0
  by kind.ZeroDivisor cell h = h.1.0
  by kind.Check cell h = (told_and (model_at models cell.model) _ h.1.0).2.0
  by _ cell h = absurd h

module _ (models : List ModelInfo) (placed : Placed) (whole : IsWhole models placed) where
  abbrev at : Course
  at = course_of models placed

  -- all tables are those with all edits
  pub all-so-far : so_far models (empty_tables models) placed.making ≡ at.tables (length at.rows)
  all-so-far =
      sym (ap (after models (empty_tables models)) (edits-all placed whole.fit.counted)) ∙ ap at.tables whole.each

  module _ (rose : Type 0) (b : Broken) where
    -- what is forbidden is refused, with the number of its row
    pub forbidden-refused : (why : InstallFault) → TellsOwner placed b why → IsFound models at b → RefusesRows rose (IsRefused models at) why
    forbidden-refused fault.Keeper told found = absurd told
    forbidden-refused fault.NoMemory told found = tt
    forbidden-refused (fault.Refused n c) (same, inl own) found =
        let number = made-owner models placed whole.fit b.cell found.number n found.owner own in
        subst (IsRefused models at n) (sym same) (record {
          owner = owner-made models placed whole.fit b.cell n own;
          why = inr (subst (λ (m : ℕ). IsForbidden models at m b.kind b.cell) number found.why);
        })
    forbidden-refused (fault.Refused n c) (same, inr none) found = absurd (unmade-absent models placed whole.fit b.cell none.0 (suc found.number) found.owner.there)

    -- and so is what the tables break
    pub broken-refused : (why : InstallFault) → TellsOwner placed b why → IsBroken models (at.tables (length at.rows)) b → RefusesRows rose (IsRefused models at) why
    broken-refused fault.Keeper told broken = absurd told
    broken-refused fault.NoMemory told broken = tt
    broken-refused (fault.Refused n c) (same, inl own) broken = subst (IsRefused models at n) (sym same) (record { owner = owner-made models placed whole.fit b.cell n own; why = inl broken })
    broken-refused (fault.Refused n c) (same, inr none) broken =
        absurd (unmade-absent models placed whole.fit b.cell none.0 (length at.rows) (broken-there models (at.tables (length at.rows)) b broken))

module _ (models : List ModelInfo) (now : ℤ) (rows : List PresetRow) where
  -- all rows are made
  pub last-tables : (course models now rows).tables (length rows) ≡ (installed models now rows).tables
  last-tables = ap (λ (rs : List PresetRow). (installed models now rs).tables) (take_all (length rows) rows (omega arith))

  -- where nothing is forbidden and the tables break nothing, nothing is refused
  pub all-installed : Finds models (course models now rows) None → Sound models (installed models now rows).tables → IsInstalled models now rows (installed models now rows).tables
  all-installed none sound = record {
    tables = refl;
    sound = sound;
    allowed = λ n b refused. by n b refused.owner refused.why;
  } where
    by : (n : ℕ) (b : Broken) → IsMadeFor models (course models now rows) n (row_key b.cell) → IsBroken models ((course models now rows).tables (length rows)) b ⊎ IsForbidden models (course models now rows) n b.kind b.cell → ⊥
    by n b made (inl broken) = sound b (subst (λ (t : Tables). IsBroken models t b) last-tables broken)
    by n b made (inr forbidden) = none n b made forbidden

-- no rows are made at once
pub none-installed : (models : List ModelInfo) (now : ℤ) (rows : List PresetRow) → rows ≡ [] → Sound models (empty_tables models) → IsInstalled models now rows (empty_tables models)
none-installed models now rows none sound = subst (λ (rs : List PresetRow). IsInstalled models now rs (empty_tables models)) (sym none) (record {
  tables = refl;
  sound = sound;
  allowed = λ n b refused. false≢true (sym (ap is_some (same n (row_key b.cell)) ∙ ap is_some refused.owner.absent) ∙ refused.owner.there);
}) where
  same : (n : ℕ) (key : RowKey) → row_at ((course models now []).tables (suc n)) key.model key.id ≡ row_at ((course models now []).tables n) key.model key.id
  same zero key = refl
  same (suc n) key = refl

-- ---- over the engine

-- what is so of the rows over the registry, by the author that is passed on, is so over its models
pub course-is : (schema models : List ModelInfo) → schema ≡ models → (passed by : Author) → passed ≡ by → (rows : List PresetRow) (placed : Placed) (making : Making)
    → (HoldsNextIds schema (empty_tables schema) making → course_of schema placed ≡ course_by schema passed rows)
    → (tables : Tables) → tables ≡ empty_tables models → HoldsNextIds models tables making → course_of models placed ≡ course_by models by rows
course-is schema models same passed by is rows placed making made tables empty holds =
    let told = subst (λ (ms : List ModelInfo). HoldsNextIds ms (empty_tables ms) making → course_of ms placed ≡ course_by ms passed rows) same made in
    told (subst (λ (t : Tables). HoldsNextIds models t making) empty holds) ∙ ap (λ (a : Author). course_by models a rows) is

-- an engine that stays rests where it did
pub rests-still : (before now : Option Store) (old new : Holding) → Stays before old now new → (tables : Tables) → RestsAt before old tables → RestsAt now new tables
rests-still before now old new same tables rests = subst (λ (ms : List ModelInfo). Stands now new (resting ms tables)) (sym same.models) (same.stands (resting old.models tables) rests)

-- rows that are settled are kept, or the engine has the tables that it had
pub kept-installs : (now : ℤ) (rows : List PresetRow) (before after : Standpoint) (since : Type 0) → (since → KeeperRose before after) → (old new : Tables) → IsInstalled (models_at before) now rows new
    → (r : Result (Unit {0}) InstallFault)
    → OnOk r (HasTables after new) → OnErr r (HasTables after old) → IfErr r (RefusesRows since (λ _ _. ⊥)) → InstallsOver now rows before after old r
kept-installs now rows before after since later old new made (Ok u) kept lost cause = (new, made, kept)
kept-installs now rows before after since later old new made (Err fault.Keeper) kept lost cause = (later cause, lost)
kept-installs now rows before after since later old new made (Err fault.NoMemory) kept lost cause = (tt, lost)
kept-installs now rows before after since later old new made (Err (fault.Refused n b)) kept lost cause = absurd cause
