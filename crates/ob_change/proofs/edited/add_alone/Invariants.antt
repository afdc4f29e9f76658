-- The ids so far are those before, and those that stand alone so far; the ids that were passed are below those to come.
use Rattle.std.proofs.Common.{◌<◌, ◌≤◌, ℕ, get_or, length, take}
use Rattle.ob_base.specs.declared.id.RecId.{RecId}
use Rattle.ob_change.proofs.edited.add_alone.Given as goal
use Rattle.ob_change.specs.EditedSteps.{Gains, StandsAlone}

abbrev pub invariant-loop-id : goal.invariant-loop-id
invariant-loop-id l = record {
  gained : Gains (StandsAlone (take l.id-index l.from) l.others) l.fn.ids.items l.ids.items;
  within : l.place ≤ length l.others;
  passed : (k j : ℕ) (d e : RecId) → k < l.place → l.id-index ≤ j → j < length l.from → (get_or l.others k d).0 < (get_or l.from j e).0;
}
