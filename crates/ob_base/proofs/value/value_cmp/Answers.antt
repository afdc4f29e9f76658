-- The order of lists of ids is that of their numbers.
use Rattle.std.proofs.Common.{refl}
use Rattle.ob_base.proofs.OrderLaws.{slice_cmp-ids}
use Rattle.ob_base.proofs.value.value_cmp.Goals as goal

pub returns-in-Refs-Refs-clause-order : goal.returns-in-Refs-Refs-clause-order
returns-in-Refs-Refs-clause-order c =
    rw (c.cmp-in-Refs-Refs.ensures, c.as_slice.ensures.same, c.as_slice-in-Refs-Refs.ensures.same, c.in-Refs-Refs.is-0, c.in-Refs-Refs.is-1)
    (slice_cmp-ids _ (λ x y. refl) c.in-Refs-Refs.x c.in-Refs-Refs.y)
