use Rattle.std.proofs.Common.{◌≡◌, ℕ, [], map, take}
use Rattle.std.specs.Map.{update_all}
use Rattle.std.specs.Ordering.{nat_cmp, eq_by_cmp}
use Rattle.std.specs.BTreeMap as tree
use Rattle.std.specs.FinMap as finite
use Rattle.ob_tables.specs.After.{row_of}
use Rattle.ob_tables.proofs.row.new_row.Given as goal

-- the values so far are in an unset row
abbrev pub invariant-loop-field : goal.invariant-loop-field
invariant-loop-field l = (q : ℕ) → tree.get nat_cmp l.row q ≡ update_all (eq_by_cmp nat_cmp) (finite.get (row_of l.info [])) (map (λ given. (given.0.0, given.1)) (take l.field-index l.values)) q
