-- Questions to an engine behind one another, and what is told between them.
use Rattle.std.proofs.Common.{◌≡◌, ◌&&◌, Bool, true, false, ℕ, ◌≤◌, ◌<◌, inl, inr, List, Option, Some, None, Result, Ok, Err, refl, sym, subst, ◌∙◌, arith}
use Rattle.std.specs.Prelude.{IfErr, IsErrOf, IsSomeAnd}
use Rattle.ob_cache.proofs.CallerLemmas.{stays-then}
use Rattle.ob_base.specs.declared.refusal.Refusal.{Refusal}
use Rattle.ob_cache.specs.Calls.{HasTables, KeeperRose, Refuses, standpoint}
use Rattle.ob_cache.specs.Stages.{IsUsable, StandsOver, resting}
use Rattle.ob_cache.specs.Standing.{Stands, Stays}
use Rattle.ob_cache.specs.declared.engine.Engine.{Engine}
use Rattle.ob_cache.specs.declared.stages.Phase.TheVariants as phase
use Rattle.ob_io.specs.Cause.{HasCause, Rose}
use Rattle.ob_io.specs.Refusals.{keeper_refusal}
use Rattle.ob_io.specs.declared.keeper.KeepFault.{KeepFault}
use Rattle.ob_io.specs.declared.keeper.KeepFault.TheVariants as keep_fault
use Rattle.ob_io.specs.declared.keeper.Keeper.{Ghosts}
use Rattle.ob_io.specs.Store.{Store}
use Rattle.ob_query.specs.SearchParts.{IsSoughtOver}
use Rattle.ob_query.specs.SearchQuestions.{IsUnanswered, OnlyAsked, TellsOf}
use Rattle.ob_query.specs.declared.searching.sought.Sought.{Sought}
use Rattle.ob_schema.specs.Broken.{AreSound}
use Rattle.ob_schema.specs.Facts.{OfAllTold, Told, told_by}
use Rattle.ob_schema.specs.Tables.{Tables}
use Rattle.ob_schema.specs.declared.info.ModelInfo.{ModelInfo}

pub rose_later : (a b c : ℕ) → a ≤ b → Rose b c → Rose a c
rose_later a b c low (inl rose) = inl (let up : a < c = omega arith in up)
rose_later a b c low (inr far) = inr far

-- a row that is known and isn't shown isn't found
pub hidden_row : (k s h : Bool) → k ≡ true → false ≡ s → false ≡ (k && (s && h))
hidden_row true false h e f = refl
hidden_row true true h e f = absurd cc
hidden_row false s h e f = absurd cc

-- one that is known and shown is found where it meets the domain
pub shown_row : (k s h b : Bool) → k ≡ true → s ≡ true → b ≡ h → b ≡ (k && (s && h))
shown_row true true h b e f is = is
shown_row true false h b e f is = absurd cc
shown_row false s h b e f is = absurd cc

pub first_true : (a b : Bool) → true ≡ (a && b) → a ≡ true
first_true true b e = refl
first_true false b e = absurd cc

pub near_then : (a b c : ℕ) → a < b → b ≤ c → a ≤ c
near_then a b c first second = omega arith

sound_of : (o : Option Store) (models : List ModelInfo) (tables : Tables) → IsSomeAnd o (StandsOver (resting models tables)) → AreSound models tables
sound_of None models tables over = absurd over
sound_of (Some store) models tables over = over.sound

rested : IsUsable phase.Settled
rested is = cc

module _ {K : Type 0} (g : Ghosts K) where
  -- a question by what the engine says of it
  pub as_asked : (a b : Engine K) → b.keeper.ghost_name ≡ a.keeper.ghost_name → Stays (g.kept a.keeper.now) a.held (g.kept b.keeper.now) b.held → g.faults a.keeper.now ≤ g.faults b.keeper.now → OnlyAsked g a b
  as_asked a b lender same count = record { lender = lender; same = same; count = count }

  -- why it has no answer
  pub as_unanswered : {T : Type 0} (a b : Engine K) (r : Result T KeepFault) → HasCause (g.faults a.keeper.now) (g.faults b.keeper.now) (IsErrOf r keep_fault.Failed) → IfErr r (IsUnanswered g a b)
  as_unanswered a b (Ok x) cause = tt
  as_unanswered a b (Err keep_fault.Failed) cause = cause.cause refl
  as_unanswered a b (Err keep_fault.NoMemory) cause = tt

  -- no question at all
  pub asked_itself : (a : Engine K) → OnlyAsked g a a
  asked_itself a = record {
    lender = refl;
    same = record { kept = refl; models = refl; phase_is = refl; next_ids = λ bound low up. up; stands = λ at is. is; only = λ at is. is };
    count = omega arith;
  }

  -- questions behind questions
  pub asked_then : (a b c : Engine K) → OnlyAsked g a b → OnlyAsked g b c → OnlyAsked g a c
  asked_then a b c first second = record {
    lender = second.lender ∙ first.lender;
    same = stays-then (g.kept a.keeper.now) (g.kept b.keeper.now) (g.kept c.keeper.now) a.held b.held c.held first.same second.same;
    count = omega (arith, first.count, second.count);
  }

  -- and a question behind others that has no answer refuses the call that asks, whatever else may
  pub unanswered_refuses : (a b c : Engine K) (P : Refusal → Type 0) (fault : KeepFault) → OnlyAsked g a b → IsUnanswered g b c fault → Refuses (KeeperRose (standpoint g a) (standpoint g c)) P (keeper_refusal fault)
  unanswered_refuses a b c P keep_fault.Failed asked cause = rose_later (g.faults a.keeper.now) (g.faults b.keeper.now) (g.faults c.keeper.now) asked.count cause
  unanswered_refuses a b c P keep_fault.NoMemory asked cause = tt

  -- what holds of all that was told holds of all that is, and the other way round
  pub told_on : (a b : Engine K) (P : Told → Type 0) → OnlyAsked g a b → OfAllTold (TellsOf g a) P → OfAllTold (TellsOf g b) P
  told_on a b P asked h told tells = h told (tells.0, asked.same.only tells.0 tells.1, tells.2, tells.3)

  pub told_back : (a b : Engine K) (P : Told → Type 0) → OnlyAsked g a b → OfAllTold (TellsOf g b) P → OfAllTold (TellsOf g a) P
  told_back a b P asked h told tells = h told (tells.0, asked.same.stands tells.0 tells.1, tells.2, tells.3)

  -- an engine that had tables has them
  pub rests_on : (a b : Engine K) (tables : Tables) → OnlyAsked g a b → HasTables (standpoint g a) tables → HasTables (standpoint g b) tables
  rests_on a b tables asked rests =
      subst (λ (models : List ModelInfo). Stands (g.kept b.keeper.now) b.held (resting models tables)) (sym asked.same.models) (asked.same.stands (resting a.held.models tables) rests)

  -- and tells of them
  pub tells_tables : (a : Engine K) (tables : Tables) → HasTables (standpoint g a) tables → TellsOf g a (told_by a.held.models tables)
  tells_tables a tables rests = (resting a.held.models tables, rests, rested, refl)

  -- the models are sound
  pub sound_at : (a : Engine K) (tables : Tables) → HasTables (standpoint g a) tables → AreSound a.held.models tables
  sound_at a tables rests = sound_of (g.kept a.keeper.now) a.held.models tables rests.over
