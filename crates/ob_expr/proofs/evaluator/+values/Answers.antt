use Rattle.std.proofs.Common.{◌≡◌, rules, List, Ok, IsOk, is_ok, true, false, sym, subst, ap, ◌∙◌}
use Rattle.std.proofs.lemmas.Result.{err_from_is_err_and}
use Rattle.ob_base.specs.declared.value.Value.{Value}
use Rattle.ob_expr.specs.declared.typed.Typed.{Typed, the_lemmas}
use Rattle.ob_expr.specs.Chain.{each}
use Rattle.ob_expr.specs.Computing.{decides, is_true, joined_value}
use Rattle.ob_expr.specs.Meaning.{ids_of, meaning}
use Rattle.ob_expr.specs.Outcome.{IsEvalFault}
use Rattle.ob_expr.specs.Reads.{MayRead}
use Rattle.ob_expr.specs.Told.{TellsRead, TellsValue}
use Rattle.ob_expr.specs.TypedTree.{TypedTree, joined, kind_of, typed_tree_of}
use Rattle.ob_expr.proofs.Kept.{MayRead-kept}
use Rattle.ob_expr.proofs.Outcomes.{in_turn}
use Rattle.ob_expr.proofs.Targets.{over-fault, over-tells, target-kept, targets-kept}
use Rattle.ob_expr.proofs.TypedRows.{MayRead-parts, joined-fault, joined-tells, trees_of, typed_tree_of-Joined}
use Rattle.ob_expr.proofs.evaluator.+values.Goals as goal

pub value_in-value_in-requires-in-Binary-2 : goal.value_in-value_in-requires-in-Binary-2
value_in-value_in-requires-in-Binary-2 g t c κs within =
    let P : Typed → Type 0 = λ x. MayRead (g.R.Reads.held c.args.reads.now) (g.R.Reads.can_read c.args.reads.now) c.args.row (typed_tree_of x) in
    let may = subst P c.in-Binary.is c.requires in
    let is = rw c.deref-in-Binary.ensures at c.in_ok-left-in-Binary.ensures.told in
    let not : decides c.in-Binary.operator c.in_ok-left-in-Binary.left ≡ false = sym c.if-decides.ensures in (
      search (rules, the_lemmas),
      (
        within.0,
        (
          within.1,
          rw c.deref-in-Binary-2.ensures
              (MayRead-kept (g.R.Reads.held c.args.reads.now) (g.R.Reads.held c.value_in-in-Binary.new.reads) (g.R.Reads.can_read c.args.reads.now) (g.R.Reads.can_read c.value_in-in-Binary.new.reads)
              c.args.row (typed_tree_of c.in-Binary.right.value) c.value_in-in-Binary.ensures.kept c.value_in-in-Binary.ensures.readable (may.1 c.in_ok-left-in-Binary.left is not)),
        ),
      ),
    )

pub value_in-value_in-requires-in-Chosen-2 : goal.value_in-value_in-requires-in-Chosen-2
value_in-value_in-requires-in-Chosen-2 g t c κs within =
    let P : Typed → Type 0 = λ x. MayRead (g.R.Reads.held c.args.reads.now) (g.R.Reads.can_read c.args.reads.now) c.args.row (typed_tree_of x) in
    let may = subst P c.in-Chosen.is c.requires in
    let is = rw c.deref-in-Chosen.ensures at c.in_ok-left-in-Chosen.ensures.told in (
      search (rules, the_lemmas),
      (
        within.0,
        (
          within.1,
          rw c.deref-in-Chosen-2.ensures
              (MayRead-kept (g.R.Reads.held c.args.reads.now) (g.R.Reads.held c.value_in-in-Chosen.new.reads) (g.R.Reads.can_read c.args.reads.now) (g.R.Reads.can_read c.value_in-in-Chosen.new.reads)
              c.args.row (typed_tree_of c.in-Chosen.right.value) c.value_in-in-Chosen.ensures.kept c.value_in-in-Chosen.ensures.readable (may.1 (ap is_ok is))),
        ),
      ),
    )

pub value_in-value_in-requires-then-is_true : goal.value_in-value_in-requires-then-is_true
value_in-value_in-requires-then-is_true g t c κs within =
    let P : Typed → Type 0 = λ x. MayRead (g.R.Reads.held c.args.reads.now) (g.R.Reads.can_read c.args.reads.now) c.args.row (typed_tree_of x) in
    let may = subst P c.in-If.is c.requires in
    let is = rw c.deref-in-If.ensures at c.in_ok-condition-in-If.ensures.told in
    let holds : is_true c.in_ok-condition-in-If.condition ≡ true = sym c.if-is_true.ensures in (
      search (rules, the_lemmas),
      (
        within.0,
        (
          within.1,
          rw c.deref-then-is_true.ensures
              (MayRead-kept (g.R.Reads.held c.args.reads.now) (g.R.Reads.held c.value_in-in-If.new.reads) (g.R.Reads.can_read c.args.reads.now) (g.R.Reads.can_read c.value_in-in-If.new.reads)
              c.args.row (typed_tree_of c.in-If.first.value) c.value_in-in-If.ensures.kept c.value_in-in-If.ensures.readable (may.1 c.in_ok-condition-in-If.condition is holds)),
        ),
      ),
    )

pub value_in-value_in-requires-else-is_true : goal.value_in-value_in-requires-else-is_true
value_in-value_in-requires-else-is_true g t c κs within =
    let P : Typed → Type 0 = λ x. MayRead (g.R.Reads.held c.args.reads.now) (g.R.Reads.can_read c.args.reads.now) c.args.row (typed_tree_of x) in
    let may = subst P c.in-If.is c.requires in
    let is = rw c.deref-in-If.ensures at c.in_ok-condition-in-If.ensures.told in
    let holds : is_true c.in_ok-condition-in-If.condition ≡ false = sym c.if-is_true.ensures in (
      search (rules, the_lemmas),
      (
        within.0,
        (
          within.1,
          rw c.deref-else-is_true.ensures
              (MayRead-kept (g.R.Reads.held c.args.reads.now) (g.R.Reads.held c.value_in-in-If.new.reads) (g.R.Reads.can_read c.args.reads.now) (g.R.Reads.can_read c.value_in-in-If.new.reads)
              c.args.row (typed_tree_of c.in-If.second.value) c.value_in-in-If.ensures.kept c.value_in-in-If.ensures.readable (may.2 c.in_ok-condition-in-If.condition is holds)),
        ),
      ),
    )

pub value_in-values_of-requires : goal.value_in-values_of-requires
value_in-values_of-requires g t c κs within =
    let held = g.R.Reads.held c.args.reads.now in
    let tree : typed_tree_of c.args.typed.now ≡ joined (trees_of c.in-Joined.parts.items) = ap typed_tree_of c.in-Joined.is ∙ typed_tree_of-Joined c.in-Joined.parts in
    let P : TypedTree → Type 0 = λ x. MayRead (g.R.Reads.held c.args.reads.now) (g.R.Reads.can_read c.args.reads.now) c.args.row x in (
      search (rules, the_lemmas),
      (
        within.0,
        (
          within.1,
          rw c.deref-in-Joined.ensures.value
              (MayRead-parts (g.R.Reads.held c.args.reads.now) c.args.row (g.R.Reads.can_read c.args.reads.now) c.in-Joined.parts.items (subst P tree c.requires)),
        ),
      ),
    )

pub value_in-values_at-requires : goal.value_in-values_at-requires
value_in-values_at-requires g t c κs within =
    let P : Typed → Type 0 = λ x. MayRead (g.R.Reads.held c.args.reads.now) (g.R.Reads.can_read c.args.reads.now) c.args.row (typed_tree_of x) in
    let may = subst P c.in-Over.is c.requires in
    let same : c.deref-in-Over.result.now ≡ c.in-Over.inner.value = c.deref-in-Over.ensures in (
      search (rules, the_lemmas),
      (
        within.0,
        (
          within.1,
          targets-kept (g.R.Reads.held c.args.reads.now) (g.R.Reads.held c.path_value-in-Over.new.reads) (g.R.Reads.can_read c.args.reads.now) (g.R.Reads.can_read c.path_value-in-Over.new.reads)
              c.in-Over.target (typed_tree_of c.in-Over.inner.value) (typed_tree_of c.deref-in-Over.result.now) (ids_of c.in_ok-targets-in-Over.targets) c.ids_of.result.now
              c.path_value-in-Over.ensures.kept c.path_value-in-Over.ensures.readable (ap typed_tree_of same) c.ids_of.ensures
              (may.1 c.in_ok-targets-in-Over.targets c.in_ok-targets-in-Over.ensures.told),
        ),
      ),
    )

pub value_in-returns-in_err-values_of-in-Joined-clause-told : goal.value_in-returns-in_err-values_of-in-Joined-clause-told
value_in-returns-in_err-values_of-in-Joined-clause-told g t c =
    let held = g.R.Reads.held c.args.reads.now in
    let failed = g.R.Reads.has_failed c.values_of.new.reads in
    let fault = c.in_err-values_of-in-Joined.field-0.0 in
    let p = err_from_is_err_and c.from_residual-in_err-values_of-in-Joined.result c.from_residual-in_err-values_of-in-Joined.ensures.1 in
    rw (p.1, p.2)
    (subst (λ (x : Typed). IsEvalFault failed held (meaning held c.args.row (typed_tree_of x)) fault) (sym c.in-Joined.is)
    (joined-fault held c.args.row failed c.in-Joined.parts fault
    (subst (λ (xs : List Typed). IsEvalFault failed held (each (λ (part : Typed). meaning held c.args.row (typed_tree_of part)) xs) fault) c.deref-in-Joined.ensures.value c.in_err-values_of-in-Joined.ensures.told)))

pub value_in-returns-in-Joined-clause-told : goal.value_in-returns-in-Joined-clause-told
value_in-returns-in-Joined-clause-told g t c =
    let held = g.R.Reads.held c.args.reads.now in
    let failed = g.R.Reads.has_failed c.values_of.new.reads in
    subst (λ (x : Typed). TellsRead failed held (λ (v : Value). v) c.joined.result (meaning held c.args.row (typed_tree_of x))) (sym c.in-Joined.is)
    (joined-tells held c.args.row failed c.in-Joined.parts c.in_ok-values_of-in-Joined.field-0.items c.joined.result
    (subst (λ (xs : List Typed). each (λ (part : Typed). meaning held c.args.row (typed_tree_of part)) xs ≡ Ok c.in_ok-values_of-in-Joined.field-0.items) c.deref-in-Joined.ensures.value
    c.in_ok-values_of-in-Joined.ensures.told)
    (subst (λ (vs : List Value). TellsValue c.joined.result (joined_value vs)) c.deref-in-Joined-2.ensures.value c.joined.ensures))

pub value_in-returns-in_err-values-in-Over-clause-told : goal.value_in-returns-in_err-values-in-Over-clause-told
value_in-returns-in_err-values-in-Over-clause-told g t c =
    let held = g.R.Reads.held c.args.reads.now in
    let failed = g.R.Reads.has_failed c.values_at.new.reads in
    let fault = c.in_err-values-in-Over.field-0.0 in
    let same : c.deref-in-Over.result.now ≡ c.in-Over.inner.value = c.deref-in-Over.ensures in
    let p = err_from_is_err_and c.from_residual-in_err-values-in-Over.result c.from_residual-in_err-values-in-Over.ensures.1 in
    rw (p.1, p.2)
    (subst (λ (x : Typed). IsEvalFault failed held (meaning held c.args.row (typed_tree_of x)) fault) (sym c.in-Over.is)
    (over-fault held c.args.row failed c.in-Over.aggregate c.in-Over.path c.in-Over.target (typed_tree_of c.in-Over.inner.value) (typed_tree_of c.deref-in-Over.result.now)
    c.in_ok-targets-in-Over.targets c.ids_of.result.now (g.R.Reads.held c.path_value-in-Over.new.reads) fault c.path_value-in-Over.ensures.kept (ap typed_tree_of same) c.ids_of.ensures
    c.in_ok-targets-in-Over.ensures.told c.in_err-values-in-Over.ensures.told))

pub value_in-returns-clause-told : goal.value_in-returns-clause-told
value_in-returns-clause-told g t c =
    let held = g.R.Reads.held c.args.reads.now in
    let failed = g.R.Reads.has_failed c.values_at.new.reads in
    let same : c.deref-in-Over.result.now ≡ c.in-Over.inner.value = c.deref-in-Over.ensures in
    let again : c.deref-in-Over-2.result.now ≡ c.in-Over.inner.value = c.deref-in-Over-2.ensures in
    subst (λ (x : Typed). TellsRead failed held (λ (v : Value). v) c.gathered.result (meaning held c.args.row (typed_tree_of x))) (sym c.in-Over.is)
    (over-tells held c.args.row failed c.in-Over.aggregate c.in-Over.path c.in-Over.target (typed_tree_of c.in-Over.inner.value) (typed_tree_of c.deref-in-Over.result.now)
    c.in_ok-targets-in-Over.targets c.ids_of.result.now (g.R.Reads.held c.path_value-in-Over.new.reads) c.kind.result c.in_ok-values-in-Over.values.items c.gathered.result
    c.path_value-in-Over.ensures.kept (ap typed_tree_of same) c.ids_of.ensures (c.kind.ensures ∙ ap (λ (x : Typed). kind_of (typed_tree_of x)) again)
    c.in_ok-targets-in-Over.ensures.told c.in_ok-values-in-Over.ensures.told c.gathered.ensures)

pub values_at-value_in-requires : goal.values_at-value_in-requires
values_at-value_in-requires g t c κs within = (
  search (rules, the_lemmas),
  (
    within.0,
    (
      within.1,
      target-kept (g.R.Reads.held c.args.reads.now) (g.R.Reads.held c.loop-id.reads) (g.R.Reads.can_read c.args.reads.now) (g.R.Reads.can_read c.loop-id.reads)
          c.args.model (typed_tree_of c.args.typed.now) c.args.ids.now c.loop-id.id-index (record { 0 = 0 }) c.loop-id.invariant.kept c.loop-id.invariant.readable c.loop-id-test.true c.loop-id.invariant.may,
    ),
  ),
)

pub values_of-value_in-requires : goal.values_of-value_in-requires
values_of-value_in-requires g t c κs within =
    let held = g.R.Reads.held c.args.reads.now in
    let can = g.R.Reads.can_read c.args.reads.now in (
      search (rules, the_lemmas),
      (
        within.0,
        (
          within.1,
          MayRead-kept (g.R.Reads.held c.args.reads.now) (g.R.Reads.held c.loop-part.reads) (g.R.Reads.can_read c.args.reads.now) (g.R.Reads.can_read c.loop-part.reads)
              c.args.row (typed_tree_of c.part-item.result) c.loop-part.invariant.kept c.loop-part.invariant.readable
              (in_turn (λ (part : Typed). IsOk (meaning held c.args.row (typed_tree_of part))) (λ (part : Typed). MayRead held can c.args.row (typed_tree_of part))
              c.args.parts.now c.loop-part.part-index c.part-item.result c.loop-part-test.true c.part-item.is c.loop-part.invariant.may).0,
        ),
      ),
    )
