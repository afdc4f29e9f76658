-- What comes behind the steps of a run.
use Rattle.std.proofs.Common.{◌≡◌, ◌≤◌, Bool, List, Option, true, false, refl, sym, subst, ◌∙◌, arith}
use Rattle.ob_cache.specs.Stages.{IsUsable}
use Rattle.ob_cache.specs.Standing.{Holding, IsAtRest, NextIdsUpTo, Stays, max_next_id}
use Rattle.ob_cache.specs.declared.stages.Phase.{Phase}
use Rattle.ob_cache.specs.declared.stages.Phase.TheVariants as phase
use Rattle.ob_io.specs.Store.{Store}
use Rattle.ob_schema.specs.declared.info.ModelInfo.{ModelInfo}
use Rattle.probe_models.specs.Steps.{IsReady, IsSame}

other : (p q : Phase) → p ≡ q → IsUsable q → IsUsable p
other p q is usable = subst IsUsable (sym is) usable

settled_usable : IsUsable phase.Settled
settled_usable is = cc

staged_usable : IsUsable phase.Staged
staged_usable is = cc

-- behind a settle
pub settled_ready : (held : Holding) → held.phase ≡ phase.Settled → NextIdsUpTo max_next_id held → IsReady true held
settled_ready held is next_ids = record { usable = other held.phase phase.Settled is settled_usable; settled = λ _. is; next_ids = next_ids }

-- at rest
pub rest_ready : (models : List ModelInfo) (held : Holding) → IsAtRest models held → IsReady true held
rest_ready models held rest = settled_ready held rest.phase_is rest.next_ids

-- while edits are staged
pub staged_ready : (held : Holding) → held.phase ≡ phase.Staged → NextIdsUpTo max_next_id held → IsReady false held
staged_ready held is next_ids = record { usable = other held.phase phase.Staged is staged_usable; settled = λ no. cc; next_ids = next_ids }

-- behind a question
pub same_ready : (is_settled : Bool) (old new : Holding) → IsReady is_settled old → IsSame old new → IsReady is_settled new
same_ready is_settled old new ready same =
    let most : max_next_id ≤ max_next_id = omega arith in
    record { usable = other new.phase old.phase same.phase_is ready.usable; settled = λ yes. same.phase_is ∙ ready.settled yes; next_ids = same.next_ids max_next_id most ready.next_ids }

-- where nothing is asked
pub same_itself : (held : Holding) → IsSame held held
same_itself held = record { models_are = refl; phase_is = refl; next_ids = λ bound most next_ids. next_ids }

-- what changes nothing that is told
pub stays_same : (before now : Option Store) (old new : Holding) → Stays before old now new → IsSame old new
stays_same before now old new stays = record { models_are = stays.models; phase_is = stays.phase_is; next_ids = stays.next_ids }

-- two questions
pub same_then : (old mid new : Holding) → IsSame old mid → IsSame mid new → IsSame old new
same_then old mid new first second = record {
  models_are = second.models_are ∙ first.models_are;
  phase_is = second.phase_is ∙ first.phase_is;
  next_ids = λ bound most next_ids. second.next_ids bound most (first.next_ids bound most next_ids);
}
