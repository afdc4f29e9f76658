-- What is asked of an engine that rests, one question behind another.
use Rattle.std.proofs.Common.{◌≤◌, ℕ, Option, Result, Ok, Err, refl, ◌∙◌, arith}
use Rattle.std.specs.Prelude.{IfErr, IfOk}
use Rattle.ob_base.specs.declared.refusal.Refusal.{Refusal}
use Rattle.ob_cache.proofs.CallerLemmas.{Refuses-weaker}
use Rattle.ob_cache.specs.Calls.{Refuses}
use Rattle.ob_cache.specs.Stages.{StandsOver, resting}
use Rattle.ob_cache.specs.Standing.{Holding, IsAtRest, RestsAt, Stays, max_next_id}
use Rattle.ob_io.specs.Cause.{Rose}
use Rattle.ob_io.specs.Store.{Store}
use Rattle.ob_rows.proofs.Passed.{rose_from}
use Rattle.ob_schema.specs.Broken.{AreSound}
use Rattle.ob_schema.specs.Tables.{Tables}
use Rattle.ob_tables.proofs.CallerLemmas.{told_and}

-- the tables at which an engine rests are sound
pub rests-sound : (kept : Option Store) (held : Holding) (tables : Tables) → RestsAt kept held tables → AreSound held.models tables
rests-sound kept held tables rests = (told_and kept (StandsOver (resting held.models tables)) rests.over).2.sound

-- nothing was asked
pub stays-none : (kept : Option Store) (held : Holding) → Stays kept held kept held
stays-none kept held = record { kept = refl; models = refl; phase_is = refl; next_ids = λ bound low up. up; stands = λ at is. is; only = λ at is. is }

-- an engine that was asked rests still
pub stays-at_rest : (before mid : Option Store) (old held : Holding) → Stays before old mid held → IsAtRest old.models old → IsAtRest old.models held
stays-at_rest before mid old held stays rest = record {
  models_are = stays.models;
  phase_is = stays.phase_is ∙ rest.phase_is;
  next_ids = stays.next_ids max_next_id (omega arith) rest.next_ids;
}

-- at its own models
pub stays-itself : (before mid : Option Store) (old held : Holding) → Stays before old mid held → IsAtRest old.models old → IsAtRest held.models held
stays-itself before mid old held stays rest = let is = stays-at_rest before mid old held stays rest in record { models_are = refl; phase_is = is.phase_is; next_ids = is.next_ids }

-- a refusal of a later question, by what is known of it
pub refused_later : (first mid now : ℕ) → first ≤ mid → (P Q : Refusal → Type 0) (why : Refusal) → ((w : Refusal) → P w → Q w) → Refuses (Rose mid now) P why → Refuses (Rose first now) Q why
refused_later first mid now up P Q why step h = Refuses-weaker (Rose mid now) (Rose first now) P Q why (rose_from first mid now up) step h

-- one that nothing but the keeper or memory causes
pub nothing_later : (first mid now : ℕ) → first ≤ mid → (Q : Refusal → Type 0) (why : Refusal) → Refuses (Rose mid now) (λ _. ⊥) why → Refuses (Rose first now) Q why
nothing_later first mid now up Q why h = refused_later first mid now up (λ _. ⊥) Q why (λ w none. absurd none) h

-- a result that is known whatever it is
pub whatever : {A E : Type 0} (r : Result A E) (P : Type 0) → P → IfOk r (λ _. P)
whatever (Ok a) P p = p
whatever (Err e) P p = tt

-- what is known of a refusal, step by step
pub err-map : {A : Type 0} (r : Result A Refusal) (P Q : Refusal → Type 0) → ((w : Refusal) → P w → Q w) → IfErr r P → IfErr r Q
err-map (Ok a) P Q step h = tt
err-map (Err w) P Q step h = step w h

-- the causes of one of a later question
pub err-later : {A : Type 0} (r : Result A Refusal) (first mid now : ℕ) → first ≤ mid → (P Q : Refusal → Type 0) → ((w : Refusal) → P w → Q w) → IfErr r (Refuses (Rose mid now) P) → IfErr r (Refuses (Rose first now) Q)
err-later (Ok a) first mid now up P Q step h = tt
err-later (Err w) first mid now up P Q step h = refused_later first mid now up P Q w step h
