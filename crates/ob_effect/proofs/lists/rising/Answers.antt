-- The ids that are left are above those so far.
use Rattle.std.proofs.Common.{◌++◌, List, ap, subst, sym, ◌∙◌}
use Rattle.std.specs.List.Sorted.{IsStrictlySortedBy}
use Rattle.ob_base.specs.declared.id.RecId.{RecId}
use Rattle.ob_effect.proofs.RisingSets.{below-next, id_cmp}
use Rattle.ob_effect.proofs.lists.rising.Goals as goal

pub push-requires : goal.push-requires
push-requires c =
    below-next c.loop-id.list c.in-Some.id.now c.next.new.self
    (subst (IsStrictlySortedBy id_cmp) (sym c.loop-id.invariant ∙ ap (λ (l : List RecId). c.loop-id.list ++ l) c.in-Some.ensures.steps) c.into_iter-id-iterator.ensures.into_iter_gives.4)
