use Rattle.std.proofs.Common.{◌≡◌, ℕ, []}
use Rattle.std.specs.Ordering.{nat_cmp}
use Rattle.std.specs.BTreeMap as tree
use Rattle.ob_tables.specs.After.{given_for}
use Rattle.ob_tables.proofs.Columns.{up_to}
use Rattle.ob_tables.proofs.row.unset_row.Given as goal

-- the fields so far are unset
abbrev pub invariant-loop-place : goal.invariant-loop-place
invariant-loop-place l = (q : ℕ) → tree.get nat_cmp l.row q ≡ up_to (given_for []) l.info l.place q
