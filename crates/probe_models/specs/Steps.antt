-- Where an engine is between the steps of a run.
use Rattle.std.specs.Prelude.{◌≡◌, Bool, IsTrue}
use Rattle.ob_cache.specs.Stages.{IsUsable}
use Rattle.ob_cache.specs.Standing.{Holding, KeepsBounds, NextIdsUpTo, max_next_id}
use Rattle.ob_cache.specs.declared.stages.Phase.TheVariants as phase

-- it may be asked, nothing is staged where it is told so, and a keeper can keep its next ids
pub record IsReady (is_settled : Bool) (held : Holding) : Type 0 where
  pub usable : IsUsable held.phase
  pub settled : IsTrue is_settled → held.phase ≡ phase.Settled
  pub next_ids : NextIdsUpTo max_next_id held

-- a question changes nothing of that
pub record IsSame (old new : Holding) : Type 0 where
  pub models_are : new.models ≡ old.models
  pub phase_is : new.phase ≡ old.phase
  pub next_ids : KeepsBounds old new
