use Rattle.std.proofs.Common.{◌≡◌, length}
use Rattle.std.specs.List.{AllWithin}
use Rattle.ob_cache.proofs.OwnFaults.{FromTarget}
use Rattle.ob_change.specs.Changing.{models_of}
use Rattle.ob_cache.proofs.failing.+lacking_along.Given as goal

abbrev pub decreases-lacking_along : goal.decreases-lacking_along
decreases-lacking_along l = length l.links.now

-- the cells behind the targets so far have values
abbrev pub invariant-loop-target : goal.invariant-loop-target
invariant-loop-target l = record {
  same : l.source ≡ l.fn.source;
  along : AllWithin (FromTarget (models_of l.fn.change) l.fn.change.behind.now.tables l.link l.rest l.fn.field) l.target-items 0 l.target-index;
}
