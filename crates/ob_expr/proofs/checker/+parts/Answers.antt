use Rattle.std.proofs.Common.{◌≡◌, Option, Some, None, Result, map, sym, subst, ◌∙◌}
use Rattle.std.proofs.lemmas.Result.{err_from_is_err_and}
use Rattle.ob_expr.specs.declared.checker.TypeFault.{TypeFault}
use Rattle.ob_expr.specs.Functions.{function_of, over_targets}
use Rattle.ob_expr.specs.Told.{TellsPart, part_tree}
use Rattle.ob_expr.specs.TypedTree.{TypedTree}
use Rattle.ob_expr.proofs.CallParts.{call_over, call_right, call_wrong, too_many}
use Rattle.ob_expr.proofs.checker.+parts.Goals as goal

pub check_over-returns-then-not-is_empty : goal.check_over-returns-then-not-is_empty
check_over-returns-then-not-is_empty g t c = λ _.
    too_many (g.S.Scope.finds c.args.scope.now) c.args.model c.args.aggregate c.args.at c.args.arguments.now c.first-item.result c.inner-item.result (part_tree c.in_ok-targets.targets)
    (part_tree c.in_ok-inner.inner) c.in_ok-path.path c.in_ok-path.target (sym c.is_empty.ensures ∙ c.if-not-is_empty.true) c.first-item.is c.inner-item.is c.in_ok-targets.ensures
    (sym c.in_ok-path.ensures) c.in_ok-inner.ensures

pub check_part-returns-in-Some : goal.check_part-returns-in-Some
check_part-returns-in-Some g t c =
    let over : over_targets (function_of c.in-Call.name) ≡ Some c.in-Some.aggregate = cc in
    let is = call_over (g.S.Scope.finds c.args.scope.now) c.args.model c.call_order.ensures c.args.expr.now c.in-Call.name c.in-Call.arguments c.in-Call.at c.in-Some.aggregate c.deref-in-Some.result.now
    c.in-Call.is over c.deref-in-Some.ensures.value in
    subst (λ (m : Result (Option TypedTree) TypeFault). TellsPart c.check_over.result m) (sym is) c.check_over.ensures

pub check_part-returns-in_err-parts-in-Call : goal.check_part-returns-in_err-parts-in-Call
check_part-returns-in_err-parts-in-Call g t c =
    let values : over_targets (function_of c.in-Call.name) ≡ None = cc in
    let p = err_from_is_err_and c.from_residual-in_err-parts-in-Call.result c.from_residual-in_err-parts-in-Call.ensures.1 in
    rw (p.1, p.2) (λ other. call_wrong (g.S.Scope.finds c.args.scope.now) c.args.model c.call_order.ensures c.args.expr.now c.in-Call.name c.in-Call.arguments c.in-Call.at c.deref-in-Call.result.now
    c.in_err-parts-in-Call.field-0.0 c.in-Call.is values c.deref-in-Call.ensures.value (c.in_err-parts-in-Call.ensures other))

pub check_part-returns-in_ok-parts-in-Call : goal.check_part-returns-in_ok-parts-in-Call
check_part-returns-in_ok-parts-in-Call g t c =
    let values : over_targets (function_of c.in-Call.name) ≡ None = cc in
    let named : c.function_of-function.result ≡ function_of c.in-Call.name = cc in
    let is = call_right (g.S.Scope.finds c.args.scope.now) c.args.model c.call_order.ensures c.args.expr.now c.in-Call.name c.in-Call.arguments c.in-Call.at c.function_of-function.result c.deref-in-Call.result.now
    (map part_tree c.in_ok-parts-in-Call.parts.items) c.in-Call.is named values c.deref-in-Call.ensures.value c.in_ok-parts-in-Call.ensures in
    subst (λ (m : Result (Option TypedTree) TypeFault). TellsPart c.called.result m) (sym is) c.called.ensures
