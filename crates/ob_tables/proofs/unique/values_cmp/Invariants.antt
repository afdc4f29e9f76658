use Rattle.std.proofs.Common.{◌≡◌, length}
use Rattle.std.specs.Cmp.Lexicographic.{slice_cmp}
use Rattle.ob_base.specs.ValueOrder.{value_order}
use Rattle.ob_tables.specs.Sets.{values_in}
use Rattle.ob_tables.proofs.FrontOrder.{left_cmp}
use Rattle.ob_tables.proofs.unique.values_cmp.Given as goal

-- the values so far are alike
abbrev pub invariant-loop-x : goal.invariant-loop-x
invariant-loop-x l = slice_cmp value_order (values_in l.a) (values_in l.b) ≡ left_cmp value_order (λ v. v.now) l.a l.b (length l.yielded)
