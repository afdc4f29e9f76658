-- What an engine stands at where staging failed, before anything was staged or in doing so.
use Rattle.std.proofs.Common.{Option, Result, Ok, Err, refl, ◌∙◌}
use Rattle.std.specs.Prelude.{OnErr, OnOk}
use Rattle.ob_cache.specs.Stages.{spoiled}
use Rattle.ob_cache.specs.Standing.{Holding, IsSpoiled, Stays}
use Rattle.ob_io.specs.Store.{Store}
use Rattle.ob_stage.specs.Stage.{KeepsFlushed}

-- nothing was staged
pub asked-flushed : (before now : Option Store) (old new : Holding) → Stays before old now new → KeepsFlushed before old now new
asked-flushed before now old new same = record { kept = same.kept; models = same.models; stands = λ at is. (at, same.stands at is, refl) }

-- staging failed behind questions
pub spoiled-flushed : (before mid now : Option Store) (old held new : Holding) → Stays before old mid held → IsSpoiled mid held now new → KeepsFlushed before old now new
spoiled-flushed before mid now old held new same failed = record {
  kept = failed.kept ∙ same.kept;
  models = failed.models ∙ same.models;
  stands = λ at is. (spoiled at, failed.stands at (same.stands at is), refl);
}

-- ---- what is known of an outcome

-- whatever it is
pub on_err : {A E : Type 0} (r : Result A E) (P : Type 0) → P → OnErr r P
on_err (Ok a) P p = tt
on_err (Err e) P p = p

-- what follows where it failed, and where it didn't
pub err-then : {A E : Type 0} (r : Result A E) (P Q : Type 0) → (P → Q) → OnErr r P → OnErr r Q
err-then (Ok a) P Q step h = tt
err-then (Err e) P Q step h = step h

pub ok-then : {A E : Type 0} (r : Result A E) (P Q : Type 0) → (P → Q) → OnOk r P → OnOk r Q
ok-then (Ok a) P Q step h = step h
ok-then (Err e) P Q step h = tt
