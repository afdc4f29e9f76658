-- The ids that are left are above those so far.
use Rattle.std.proofs.Common.{◌++◌, ◌∷◌, [], List, sym, subst, ap, ◌∙◌, append_assoc}
use Rattle.std.proofs.lemmas.List.{append-nil}
use Rattle.std.specs.List.Sorted.{IsStrictlySortedBy}
use Rattle.ob_base.specs.declared.id.RecId.{RecId}
use Rattle.ob_access.proofs.Rising.{below-next, id_cmp}
use Rattle.ob_access.proofs.groups.listed.Goals as goal

pub loop-id-init : goal.loop-id-init
loop-id-init c = ap (λ (l : List RecId). l ++ c.into_iter-id-iterator.result) c.new-ids.ensures ∙ c.into_iter-id-iterator.ensures.into_iter_gives.0

pub push-requires : goal.push-requires
push-requires c =
    below-next c.loop-id.ids c.in-Some.id.now c.next.new.self
    (subst (IsStrictlySortedBy id_cmp) (sym c.loop-id.invariant ∙ ap (λ (l : List RecId). c.loop-id.ids ++ l) c.in-Some.ensures.steps) c.into_iter-id-iterator.ensures.into_iter_gives.4)

pub loop-id-preserved : goal.loop-id-preserved
loop-id-preserved c =
    ap (λ (l : List RecId). l ++ c.next.new.self) c.in_ok-push.ensures.ok ∙ append_assoc c.loop-id.ids (c.in-Some.id.now ∷ []) c.next.new.self
    ∙ sym (ap (λ (l : List RecId). c.loop-id.ids ++ l) c.in-Some.ensures.steps) ∙ c.loop-id.invariant

pub returns : goal.returns
returns c = sym (append-nil c.loop-id.ids) ∙ sym (ap (λ (l : List RecId). c.loop-id.ids ++ l) c.in-None.ensures.steps.0) ∙ c.loop-id.invariant
