-- What the steps of a call pass on to it.
use Rattle.std.proofs.Common.{◌≡◌, ℕ, ℤ, ◌≤◌, List, Option, Some, None, inl, inr, ap, arith, w64, Bool, rules}
use Rattle.std.specs.Int.{cast_signed, cast_unsigned}
use Rattle.std.specs.Prelude.{FitsSigned, IfSome, IsSome, IsSomeAnd}
use Rattle.std.proofs.lemmas.Bool.{false≢true}
use Rattle.std.proofs.lemmas.Int.{ints, to_z-of_z}
use Rattle.serde_json.specs.View.{view}
use Rattle.ob_base.specs.Times.{IsMoment}
use Rattle.ob_base.specs.declared.refusal.Refusal.{Refusal}
use Rattle.ob_cache.proofs.CallerLemmas.{Refuses-weaker}
use Rattle.ob_cache.specs.Calls.{Refuses, settled_over}
use Rattle.ob_cache.specs.Stages.{StandsOver}
use Rattle.ob_io.specs.Cause.{Rose}
use Rattle.ob_io.specs.Store.{Store}
use Rattle.ob_schema.specs.Broken.{Sound}
use Rattle.ob_schema.specs.Tables.{Tables}
use Rattle.ob_schema.specs.declared.info.ModelInfo.{ModelInfo}
use Rattle.ob_rows.specs.declared.author.Author.{Author}
use Rattle.serde_json.specs.Data.{boolean}
use Rattle.serde_json.specs.declared.value.Value.{the_lemmas}
use Rattle.serde_json.specs.declared.value.Value.TheVariants as told

-- what holds of each model holds of one that may be there
pub everywhere : (o : Option ModelInfo) (P : ModelInfo → Type 0) → ((info : ModelInfo) → P info) → IfSome o P
everywhere None P each = tt
everywhere (Some info) P each = each info

-- what is known of a model that may be there, step by step
pub known_of : (o : Option ModelInfo) (P Q : ModelInfo → Type 0) → ((info : ModelInfo) → P info → Q info) → IfSome o P → IfSome o Q
known_of None P Q step h = tt
known_of (Some info) P Q step h = step info h

pub nowhere : (o : Option ModelInfo) → IsSome o → IfSome o (λ _. ⊥) → ⊥
nowhere None there wrong = false≢true there
nowhere (Some info) there wrong = wrong

-- a count that rose from a later one rose
pub rose_from : (before mid now : ℕ) → before ≤ mid → Rose mid now → Rose before now
rose_from before mid now low (inl more) = inl (omega arith)
rose_from before mid now low (inr end) = inr end

-- the moment of the call as it is passed on
pub moment_passed : (now : ℤ) → IsMoment now → cast_signed w64 (cast_unsigned w64 now) ≡ now
moment_passed now moment = let fits : FitsSigned w64 now = (let low = moment.low in let high = moment.high in grind (arith, ints)) in to_z-of_z w64 now fits

-- so is the author
pub author_passed : (by : Author) → IsMoment by.now → record by { now = cast_signed w64 (cast_unsigned w64 by.now) } ≡ by
author_passed by moment = ap (λ (n : ℤ). record by { now = n }) (moment_passed by.now moment)

-- tables that were settled are sound
pub sound_in : (models : List ModelInfo) (old tables : Tables) (kept : Option Store) → IsSomeAnd kept (StandsOver (settled_over models old tables)) → Sound models tables
sound_in models old tables None over = absurd over
sound_in models old tables (Some store) over = (over.settled (λ e. cc)).sound

-- the answer as data
pub view-Bool : (b : Bool) → view (told.Bool b) ≡ boolean b
view-Bool b = search (rules, the_lemmas)

-- what has no cause has any
anything : (P : Refusal → Type 0) (w : Refusal) → ⊥ → P w
anything P w h = absurd h

pub unasked-cause : (rose : Type 0) (P : Refusal → Type 0) (why : Refusal) → Refuses rose (λ _. ⊥) why → Refuses rose P why
unasked-cause rose P why h = Refuses-weaker rose rose (λ _. ⊥) P why (λ risen. risen) (anything P) h
