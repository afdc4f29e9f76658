-- The next id is added behind those so far, where it is seen.
use Rattle.std.proofs.Common.{◌+◌, ◌++◌, List, get_or, drop, sym, subst, ◌∙◌, rules}
use Rattle.std.specs.List.Sorted.{IsStrictlySortedBy}
use Rattle.std.proofs.lemmas.Result.{err_from_is_err_and}
use Rattle.ob_base.specs.declared.id.RecId.{RecId}
use Rattle.ob_schema.specs.Facts.{asked-then}
use Rattle.ob_access.specs.Views.{sees}
use Rattle.ob_access.proofs.Asking.{asked_none, fault_behind}
use Rattle.ob_access.proofs.Rising.{below-next, id_cmp, sorted-from_rising}
use Rattle.ob_access.proofs.Seeing.{next_rises, seen_more, unseen_more, with_rises, without_rises}
use Rattle.ob_access.proofs.policy.Policy.seen_ids.Goals as goal
use Rattle.ob_access.proofs.policy.Policy.seen_ids.Goals.{then-branch+in_ok-push, else-branch}

pub loop-id-init : goal.loop-id-init
loop-id-init g c = record {
  seen = λ told tells. c.new-seen.ensures;
  rises = subst (λ (l : List RecId). IsStrictlySortedBy id_cmp (l ++ c.args.ids.now)) (sym c.new-seen.ensures) (sorted-from_rising c.args.ids.now c.requires.rising);
  asked = asked_none _;
  same = search rules;
  kept = λ told tells. tells;
  only = λ told tells. tells;
}

pub push-requires : goal.push-requires
push-requires g c =
    let d : RecId = record { 0 = 0 } in
    below-next c.loop-id.seen (get_or c.args.ids.now c.loop-id.id-index d) (drop (c.loop-id.id-index + 1) c.args.ids.now)
    (next_rises c.args.ids.now c.loop-id.id-index d c.loop-id-test.true c.loop-id.seen c.loop-id.invariant.rises)

pub loop-id-preserved : goal.loop-id-preserved
loop-id-preserved g c =
    let d : RecId = record { 0 = 0 } in let ids = c.args.ids.now in let i = c.loop-id.id-index in
    record {
      seen = λ told tells. elim c.if-branch.branch [
        | then-branch+in_ok-push w ↦ w.seen-is ∙ w.in_ok-push.ensures.ok
            ∙ seen_more (λ (id : RecId). sees c.args.self.now told c.args.groups.now c.args.user c.args.model id) ids i d c.loop-id-test.true c.loop-id.seen (c.loop-id.invariant.seen told tells)
            (sym (c.in_ok-sees.ensures.sees told (c.loop-id.invariant.kept told tells)) ∙ w.if-branch.true)
        | else-branch w ↦ w.seen-is
            ∙ unseen_more (λ (id : RecId). sees c.args.self.now told c.args.groups.now c.args.user c.args.model id) ids i d c.loop-id-test.true c.loop-id.seen (c.loop-id.invariant.seen told tells)
            (sym (c.in_ok-sees.ensures.sees told (c.loop-id.invariant.kept told tells)) ∙ w.if-branch.false)
      ];
      rises = elim c.if-branch.branch [
        | then-branch+in_ok-push w ↦ subst (λ (l : List RecId). IsStrictlySortedBy id_cmp (l ++ drop (i + 1) ids)) (sym (w.seen-is ∙ w.in_ok-push.ensures.ok))
            (with_rises ids i d c.loop-id-test.true c.loop-id.seen c.loop-id.invariant.rises)
        | else-branch w ↦ subst (λ (l : List RecId). IsStrictlySortedBy id_cmp (l ++ drop (i + 1) ids)) (sym w.seen-is)
            (without_rises ids i d c.loop-id-test.true c.loop-id.seen c.loop-id.invariant.rises)
      ];
      asked = asked-then _ _ _ c.loop-id.invariant.asked c.sees.ensures.asked;
      same = c.sees.ensures.same ∙ c.loop-id.invariant.same;
      kept = λ told tells. c.sees.ensures.kept told (c.loop-id.invariant.kept told tells);
      only = λ told tells. c.loop-id.invariant.only told (c.sees.ensures.only told tells);
    }

pub returns-in_err-sees-clause-fault : goal.returns-in_err-sees-clause-fault
returns-in_err-sees-clause-fault g c =
    let p = err_from_is_err_and c.from_residual.result c.from_residual.ensures.1 in
    rw (p.1, p.2) (fault_behind g.F.Facts.has_failed _ _ c.sees.new.facts c.in_err-sees.field-0.0 c.loop-id.invariant.asked c.in_err-sees.ensures.fault)

pub returns-in_err-sees-clause-asked : goal.returns-in_err-sees-clause-asked
returns-in_err-sees-clause-asked g c = asked-then _ _ _ c.loop-id.invariant.asked c.sees.ensures.asked

pub returns-in_err-push-clause-asked : goal.returns-in_err-push-clause-asked
returns-in_err-push-clause-asked g c = asked-then _ _ _ c.loop-id.invariant.asked c.sees.ensures.asked
