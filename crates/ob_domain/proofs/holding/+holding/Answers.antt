-- Terms from the last to the first; inner ones on each row behind their links.
use Rattle.std.proofs.Common.{◌≡◌, Bool, rules, length, reverse, refl, sym, ap, ◌∙◌, arith}
use Rattle.std.proofs.lemmas.List.{drop_all}
use Rattle.std.specs.List.{list_all, list_any}
use Rattle.std.proofs.lemmas.Result.{err_from_is_err_and}
use Rattle.ob_expr.specs.Meaning.{row_at}
use Rattle.ob_schema.specs.Facts.{asked-then}
use Rattle.ob_domain.specs.Holding.{holds}
use Rattle.ob_domain.specs.Over.{end_of}
use Rattle.ob_domain.specs.Trees.{tree_of}
use Rattle.ob_domain.specs.declared.asked.Row.{Row}
use Rattle.ob_domain.specs.declared.term.Term.{the_lemmas}
use Rattle.ob_domain.proofs.Answered.{answers-all, answers_step, any_answer, any_over, item_known, one_met, one_passed, row_known, row_over}
use Rattle.ob_domain.proofs.Asking.{asked_none, fault_behind}
use Rattle.ob_domain.proofs.holding.+holding.Goals as goal

pub answer_of-any_meets-requires : goal.answer_of-any_meets-requires
answer_of-any_meets-requires g t c κs within =
    let over = any_over c.args.term.now c.in-Any.sense c.in-Any.links c.in-Any.inner c.deref.result.now c.deref-in-Any.result.now c.in-Any.is c.deref.ensures.value c.deref-in-Any.ensures.value
    (g.F.Facts.registry c.args.facts.now) c.args.row.model c.requires.over in
    (search (rules, the_lemmas), (within.0, (within.1, (over.0, (over.1, c.requires.known)))))

pub answer_of-returns-in_ok-any_meets-in-Any-clause-told : goal.answer_of-returns-in_ok-any_meets-in-Any-clause-told
answer_of-returns-in_ok-any_meets-in-Any-clause-told g t c = λ told tells.
    any_answer c.args.term.now c.in-Any.sense c.in-Any.links c.in-Any.inner c.deref.result.now c.deref-in-Any.result.now c.in-Any.is c.deref.ensures.value c.deref-in-Any.ensures.value
    told c.args.user (row_at c.args.row.model c.args.row.id) (reverse c.args.answers.now.items) c.in_ok-any_meets-in-Any.field-0 c.of-in-Any.result
    c.of-in-Any.ensures (c.in_ok-any_meets-in-Any.ensures.told told tells)

pub any_meets-meets-requires : goal.any_meets-meets-requires
any_meets-meets-requires g t c κs within =
    let shown = c.deref-reached-items.result.now in (
      search (rules, the_lemmas),
      (
        within.0,
        (
          within.1,
          (
            row_over (g.F.Facts.registry c.args.facts.now) (g.F.Facts.registry c.loop-reached.facts) (end_of c.args.row.model c.args.links.now) (tree_of c.args.terms.now) c.in_ok-rows.rows.items shown
                c.loop-reached.reached-index _ c.deref-reached-items.ensures.value c.loop-reached.invariant.same c.loop-reached-test.true c.in_ok-rows.ensures.end c.requires.over,
            λ told tells. row_known told c.in_ok-rows.rows.items shown c.loop-reached.reached-index _ c.deref-reached-items.ensures.value c.loop-reached-test.true
                (c.in_ok-rows.ensures.known told (c.loop-reached.invariant.only told tells)),
          ),
        ),
      ),
    )

pub any_meets-returns-then-branch-clause-told : goal.any_meets-returns-then-branch-clause-told
any_meets-returns-then-branch-clause-told g t c =
    λ told tells. let tree = tree_of c.args.terms.now in
    sym (one_met told c.args.user tree c.deref-reached-items.result.now c.loop-reached.reached-index _ c.in_ok-meets.field-0
    c.loop-reached-test.true (c.in_ok-meets.ensures.told told (c.loop-reached.invariant.kept told tells)) (c.loop-reached.invariant.none told tells) c.if-branch.true)
    ∙ ap (list_any (λ (r : Row). holds told c.args.user tree (row_at r.model r.id))) c.deref-reached-items.ensures.value ∙ c.in_ok-rows.ensures.told told tells (holds told c.args.user tree)

pub any_meets-loop-reached-preserved : goal.any_meets-loop-reached-preserved
any_meets-loop-reached-preserved g t c = record {
  none = λ told tells. one_passed told c.args.user (tree_of c.args.terms.now) c.deref-reached-items.result.now c.loop-reached.reached-index _ c.in_ok-meets.field-0
      c.loop-reached-test.true (c.in_ok-meets.ensures.told told (c.loop-reached.invariant.kept told tells)) (c.loop-reached.invariant.none told tells) c.if-branch.false;
  asked = asked-then _ _ _ c.loop-reached.invariant.asked c.meets.ensures.asked;
  same = c.meets.ensures.same ∙ c.loop-reached.invariant.same;
  kept = λ told tells. c.meets.ensures.kept told (c.loop-reached.invariant.kept told tells);
  only = λ told tells. c.loop-reached.invariant.only told (c.meets.ensures.only told tells);
}

pub any_meets-returns-clause-told : goal.any_meets-returns-clause-told
any_meets-returns-clause-told g t c =
    λ told tells. let tree = tree_of c.args.terms.now in
    let meets : Row → _ = λ (r : Row). holds told c.args.user tree (row_at r.model r.id) in
    sym (c.loop-reached.invariant.none told tells ∙ ap (list_any meets) (drop_all c.loop-reached.reached-index c.deref-reached-items.result.now c.loop-reached-test.false))
    ∙ ap (list_any meets) c.deref-reached-items.ensures.value ∙ c.in_ok-rows.ensures.told told tells (holds told c.args.user tree)

pub meets-answer_of-requires : goal.meets-answer_of-requires
meets-answer_of-requires g t c κs within = (
  search (rules, the_lemmas),
  (
    within.0,
    (
      within.1,
      (
        item_known (g.F.Facts.registry c.args.facts.now) (g.F.Facts.registry c.loop-place.facts) c.args.row.model c.args.terms.now c.loop-place.place c.index-terms-place.result
            c.loop-place.invariant.same (omega arith) c.loop-place.auto.place c.index-terms-place.is c.requires.over,
        λ told tells. c.requires.known told (c.loop-place.invariant.only told tells),
      ),
    ),
  ),
)

pub meets-loop-place-preserved : goal.meets-loop-place-preserved
meets-loop-place-preserved g t c = record {
  answers = λ told tells. rw c.in_ok-push.ensures.items (answers_step told c.args.user (row_at c.args.row.model c.args.row.id) c.args.terms.now
      c.loop-place.place c.index-terms-place.result c.loop-place.answers.items c.answer_of.new.answers.items c.in_ok-answer.answer
      (omega arith) c.loop-place.auto.place c.index-terms-place.is (c.loop-place.invariant.answers told tells) (c.in_ok-answer.ensures.told told (c.loop-place.invariant.kept told tells)));
  asked = asked-then _ _ _ c.loop-place.invariant.asked c.answer_of.ensures.asked;
  same = c.answer_of.ensures.same ∙ c.loop-place.invariant.same;
  kept = λ told tells. c.answer_of.ensures.kept told (c.loop-place.invariant.kept told tells);
  only = λ told tells. c.loop-place.invariant.only told (c.answer_of.ensures.only told tells);
}

pub meets-returns-clause-told : goal.meets-returns-clause-told
meets-returns-clause-told g t c =
    λ told tells. let start : c.loop-place.place ≡ 0 = omega arith in
    answers-all told c.args.user (row_at c.args.row.model c.args.row.id) c.args.terms.now c.loop-place.answers.items c.are_all_true.result
    (rw start at (c.loop-place.invariant.answers told tells)) (c.are_all_true.ensures ∙ ap (list_all (λ (b : Bool). b)) c.as_slice.ensures.value)

pub answer_of-returns-in-Logical-clause-asked : goal.answer_of-returns-in-Logical-clause-asked
answer_of-returns-in-Logical-clause-asked g t c = asked_none _

pub answer_of-returns-in-Constant-clause-asked : goal.answer_of-returns-in-Constant-clause-asked
answer_of-returns-in-Constant-clause-asked g t c = asked_none _

pub any_meets-returns-in_err-meets-clause-fault : goal.any_meets-returns-in_err-meets-clause-fault
any_meets-returns-in_err-meets-clause-fault g t c =
    let p = err_from_is_err_and c.from_residual-in_err-meets.result c.from_residual-in_err-meets.ensures.1 in
    rw (p.1, p.2) (fault_behind g.F.Facts.has_failed _ _ c.meets.new.facts c.in_err-meets.field-0.0 c.loop-reached.invariant.asked c.in_err-meets.ensures.fault)

pub any_meets-returns-in_err-meets-clause-asked : goal.any_meets-returns-in_err-meets-clause-asked
any_meets-returns-in_err-meets-clause-asked g t c = asked-then _ _ _ c.loop-reached.invariant.asked c.meets.ensures.asked

pub any_meets-returns-then-branch-clause-asked : goal.any_meets-returns-then-branch-clause-asked
any_meets-returns-then-branch-clause-asked g t c = asked-then _ _ _ c.loop-reached.invariant.asked c.meets.ensures.asked

pub meets-loop-place-init : goal.meets-loop-place-init
meets-loop-place-init g t c = record {
  answers = λ told tells. rw (c.new-answers.ensures.items, drop_all (length c.args.terms.now) c.args.terms.now (omega arith)) refl;
  asked = asked_none _;
  same = refl;
  kept = λ told tells. tells;
  only = λ told tells. tells;
}

pub meets-returns-in_err-answer-clause-fault : goal.meets-returns-in_err-answer-clause-fault
meets-returns-in_err-answer-clause-fault g t c =
    let p = err_from_is_err_and c.from_residual.result c.from_residual.ensures.1 in
    rw (p.1, p.2) (fault_behind g.F.Facts.has_failed _ _ c.answer_of.new.facts c.in_err-answer.field-0.0 c.loop-place.invariant.asked c.in_err-answer.ensures.fault)

pub meets-returns-in_err-answer-clause-asked : goal.meets-returns-in_err-answer-clause-asked
meets-returns-in_err-answer-clause-asked g t c = asked-then _ _ _ c.loop-place.invariant.asked c.answer_of.ensures.asked

pub meets-returns-in_err-push-clause-asked : goal.meets-returns-in_err-push-clause-asked
meets-returns-in_err-push-clause-asked g t c = asked-then _ _ _ c.loop-place.invariant.asked c.answer_of.ensures.asked
