-- The ids of the numbers so far.
use Rattle.std.proofs.Common.{◌≡◌, [], fold, map, slice_index, take}
use Rattle.std.specs.BTreeSet.{insert_key}
use Rattle.std.specs.Ordering.{nat_cmp}
use Rattle.ob_install.proofs.BroughtIds.{numbers}
use Rattle.ob_install.proofs.installing.bringing.ids_among.Given as goal

abbrev pub invariant-loop-number : goal.invariant-loop-number
invariant-loop-number l = l.found.keys ≡ fold (insert_key nat_cmp) [] (map (slice_index (numbers l.ids)) (take l.number-index l.numbers))
