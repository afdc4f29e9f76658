-- The least missing id of a change, id by id.
use Rattle.std.proofs.Common.{◌≡◌, ◌∙◌, ℕ, Bool, true, false, List, [], ◌∷◌, ◌++◌, Option, Some, None, Result, Err, refl, sym, subst}
use Rattle.std.specs.Prelude.{All, Contains, IfSome, IsErrOf, IsSomeAnd, is_some}
use Rattle.std.proofs.lemmas.List.Elements.{All-map, All-nil, All-push}
use Rattle.ob_base.specs.declared.id.ModelNo.{ModelNo}
use Rattle.ob_base.specs.declared.id.RecId.{RecId}
use Rattle.ob_base.specs.declared.id.RowKey.{RowKey}
use Rattle.ob_cache.proofs.CallerLemmas.{stays-then}
use Rattle.ob_cache.specs.Calls.{Refuses}
use Rattle.ob_cache.specs.Stages.{Stages, StandsOver, resting}
use Rattle.ob_cache.specs.Standing.{Holding, OfStages, RestsAt, Stands, Stays}
use Rattle.ob_cache.specs.Telling.{TellsFacts}
use Rattle.ob_cache.specs.declared.stages.Phase.TheVariants as phase
use Rattle.ob_call.proofs.CallerLemmas.{IsThere, asked-gap, asked-still, least_of, missing-first, missing-kept, missing-lesser}
use Rattle.ob_io.specs.Cause.{HasCause, Rose}
use Rattle.ob_io.specs.Store.{Store}
use Rattle.ob_io.specs.declared.keeper.KeepFault.{KeepFault}
use Rattle.ob_io.specs.declared.keeper.KeepFault.TheVariants as fault
use Rattle.ob_io.specs.Refusals.{keeper_refusal}
use Rattle.ob_rows.specs.AskingSteps.{AreKnown}
use Rattle.ob_rows.specs.Rights.{rows_named}
use Rattle.ob_rows.specs.There.{MissesOnly}
use Rattle.ob_schema.specs.Facts.{OfAllTold, Told, told_by}
use Rattle.ob_schema.specs.Tables.{PlainRow, Tables, row_at}
use Rattle.ob_schema.specs.declared.info.ModelInfo.{ModelInfo}

-- the tables at which an engine rests are those at which it rested
pub stays-rests : (a b : Option Store) (old new : Holding) → Stays a old b new → (tables : Tables) → RestsAt a old tables → RestsAt b new tables
stays-rests a b old new stays tables rests = subst (λ (models : List ModelInfo). Stands b new (resting models tables)) (sym stays.models) (stays.stands (resting old.models tables) rests)

-- a fault of the keeper has its cause
pub fault_refuses : {A : Type 0} (before now : ℕ) (r : Result A KeepFault) (why : KeepFault) → r ≡ Err why → HasCause before now (IsErrOf r fault.Failed) → Refuses (Rose before now) (λ _. ⊥) (keeper_refusal why)
fault_refuses before now r fault.Failed is has = has.cause is
fault_refuses before now r fault.NoMemory is has = tt

module _ (model : ModelNo) (tables : Tables) where
  -- one id more that has a row
  there_more : (ids : List ℕ) (missing : Option ℕ) (id : ℕ) → MissesOnly model tables ids missing → IsThere model tables id → MissesOnly model tables (ids ++ id ∷ []) missing
  there_more ids None id are there = All-push (IsThere model tables) ids id are there
  there_more ids (Some gap) id are there = missing-kept model tables ids gap id are there

  -- one that has none
  gap_more : (ids : List ℕ) (missing : Option ℕ) (id : ℕ) → MissesOnly model tables ids missing → row_at tables model (record { 0 = id }) ≡ None → MissesOnly model tables (ids ++ id ∷ []) (Some (least_of missing id))
  gap_more ids None id are none = missing-first model tables ids id are none
  gap_more ids (Some gap) id are none = missing-lesser model tables ids gap id are none

-- nothing is there
none_of : (o : Option PlainRow) → false ≡ is_some o → o ≡ None
none_of None e = refl
none_of (Some row) e = absurd cc

-- an engine that rests at tables tells of them
pub rests-tells : (kept : Option Store) (held : Holding) (tables : Tables) → RestsAt kept held tables → TellsFacts kept held (told_by held.models tables)
rests-tells kept held tables rests = (resting held.models tables, rests, λ is. absurd (let spoiled : phase.Settled ≡ phase.Spoiled = is in cc), refl)

-- what was told is what is told behind a question
pub told-later : (a b : Option Store) (old new : Holding) → Stays a old b new → (P : Told → Type 0) → OfAllTold (TellsFacts b new) P → OfAllTold (TellsFacts a old) P
told-later a b old new stays P h told tells = h told (tells.0, stays.stands tells.0 tells.1, tells.2, tells.3)

-- and the other way round
pub told-sooner : (a b : Option Store) (old new : Holding) → Stays a old b new → (P : Told → Type 0) → OfAllTold (TellsFacts a old) P → OfAllTold (TellsFacts b new) P
told-sooner a b old new stays P h told tells = h told (tells.0, stays.only tells.0 tells.1, tells.2, tells.3)

-- with nothing staged the rows that are there are those that are told of
rows-over : (o : Option Store) (at : Stages) → IsSomeAnd o (StandsOver at) → at.phase ≡ phase.Settled → at.staged ≡ at.settled
rows-over None at over is = absurd over
rows-over (Some store) at over is = over.at_rest is

pub row-told : (kept : Option Store) (held : Holding) → held.phase ≡ phase.Settled → (model : ModelNo) (id : RecId) (there : Bool) → OfStages kept held (λ at. there ≡ is_some (row_at at.staged model id))
    → OfAllTold (TellsFacts kept held) (λ told. there ≡ told.knows model id)
row-told kept held rest model id there h told tells =
    let (at, stands, usable, is) = tells in
    let same = rows-over kept at stands.over (stands.phase_is ∙ rest) in
    subst (λ (t : Told). there ≡ t.knows model id) (sym is) (subst (λ (t : Tables). there ≡ is_some (row_at t model id)) same (h at stands))

-- the rows of these ids are known
abbrev Known : ModelNo → List ℕ → Told → Type 0
Known model ids told = All (λ id. told.knows model (record { 0 = id }) ≡ true) ids

-- the ids so far were asked for, by an engine that stays
pub record IsSeeking (kept : Option Store) (held : Holding) (now : Option Store) (new : Holding) (model : ModelNo) (ids : List ℕ) (missing : Option ℕ) : Type 0 where
  pub same : Stays kept held now new
  pub told : (tables : Tables) → RestsAt kept held tables → MissesOnly model tables ids missing
  pub known : missing ≡ None → OfAllTold (TellsFacts kept held) (Known model ids)
  pub asked : IfSome missing (Contains ids)

-- nothing was asked for yet
pub IsSeeking-none : (kept : Option Store) (held : Holding) (model : ModelNo) → IsSeeking kept held kept held model [] None
IsSeeking-none kept held model = record {
  same = record { kept = refl; models = refl; phase_is = refl; next_ids = λ bound low up. up; stands = λ at is. is; only = λ at is. is };
  told = λ tables rests. All-nil (IsThere model tables);
  known = λ none told tells. All-nil (λ (id : ℕ). told.knows model (record { 0 = id }) ≡ true);
  asked = tt;
}

-- all were asked for
pub IsSeeking-all : (kept : Option Store) (held : Holding) (now : Option Store) (new : Holding) (model : ModelNo) (so_far ids : List ℕ) (missing : Option ℕ) → so_far ≡ ids
    → IsSeeking kept held now new model so_far missing → IsSeeking kept held now new model ids missing
IsSeeking-all kept held now new model so_far ids missing whole are = subst (λ (xs : List ℕ). IsSeeking kept held now new model xs missing) whole are

-- where none is missing the rows of all are there
pub IsSeeking-known : (kept : Option Store) (held : Holding) (now : Option Store) (new : Holding) (model : ModelNo) (ids : List ℕ) (missing : Option ℕ) → IsSeeking kept held now new model ids missing
    → missing ≡ None → OfAllTold (TellsFacts kept held) (AreKnown (rows_named model ids))
IsSeeking-known kept held now new model ids missing are none told tells =
    All-map (λ (row : RowKey). told.knows row.model row.id ≡ true) (λ (id : ℕ). record { model = model; id = record { 0 = id } }) ids (are.known none told tells)

-- what the engine told of an id
abbrev pub TellsRow : Option Store → Holding → ModelNo → ℕ → Bool → Type 0
TellsRow now new model id there = OfAllTold (TellsFacts now new) (λ told. there ≡ told.knows model (record { 0 = id }))

module _ (kept : Option Store) (held : Holding) (now : Option Store) (new : Holding) (model : ModelNo) where
  -- the next id has a row
  pub IsSeeking-there : (after : Option Store) (next : Holding) (ids : List ℕ) (missing : Option ℕ) (id : ℕ) → TellsRow now new model id true → Stays now new after next
      → IsSeeking kept held now new model ids missing → IsSeeking kept held after next model (ids ++ id ∷ []) missing
  IsSeeking-there after next ids missing id tells stays so_far = record {
    same = stays-then kept now after held new next so_far.same stays;
    told = λ tables rests. there_more model tables ids missing id (so_far.told tables rests) (sym (told-later kept now held new so_far.same (Tells true) tells (told_by held.models tables) (rests-tells kept held tables rests)));
    known = λ none told is. All-push (λ (other : ℕ). told.knows model (record { 0 = other }) ≡ true) ids id (so_far.known none told is) (sym (told-later kept now held new so_far.same (Tells true) tells told is));
    asked = asked-still ids missing id so_far.asked;
  } where
    Tells : Bool → Told → Type 0
    Tells there told = there ≡ told.knows model (record { 0 = id })

  -- the next id has none
  pub IsSeeking-gap : (after : Option Store) (next : Holding) (ids : List ℕ) (missing : Option ℕ) (id : ℕ) → TellsRow now new model id false → Stays now new after next
      → IsSeeking kept held now new model ids missing → IsSeeking kept held after next model (ids ++ id ∷ []) (Some (least_of missing id))
  IsSeeking-gap after next ids missing id tells stays so_far = record {
    same = stays-then kept now after held new next so_far.same stays;
    told = λ tables rests. gap_more model tables ids missing id (so_far.told tables rests)
        (none_of (row_at tables model (record { 0 = id })) (told-later kept now held new so_far.same (Tells false) tells (told_by held.models tables) (rests-tells kept held tables rests)));
    known = λ none. absurd (let gap : Some (least_of missing id) ≡ None = none in cc);
    asked = asked-gap ids missing id so_far.asked;
  } where
    Tells : Bool → Told → Type 0
    Tells there told = there ≡ told.knows model (record { 0 = id })
