use Rattle.std.proofs.Common.{◌≡◌, ◌≤◌, ◌++◌, length, map, filter}
use Rattle.std.specs.List.{filter_map}
use Rattle.std.specs.List.Sorted.{IsStrictlySortedBy}
use Rattle.ob_io.specs.Store.{has_link}
use Rattle.ob_io.proofs.RisingIds.{id_cmp}
use Rattle.ob_io.proofs.slots.first_holders.Given as goal

-- the ids so far and those in the slots that are left are all, they are not too many, and
-- those in the slots that are left go on rising
abbrev pub invariant-loop-slot : goal.invariant-loop-slot
invariant-loop-slot l =
    record {
      all : l.ids ++ map (λ row. row.id) (filter (has_link l.link.field l.link.target) (filter_map (λ e. e.1) l.slot-iterator)) ≡ map (λ row. row.id) (filter (has_link l.link.field l.link.target) (filter_map (λ e. e.1) l.fn.slots));
      few : length l.ids ≤ l.most;
      rising : IsStrictlySortedBy id_cmp (l.ids ++ map (λ row. row.id) (filter_map (λ e. e.1) l.slot-iterator));
    }
