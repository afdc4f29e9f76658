-- A known row with one of the ids in its path is found, or passed.
use Rattle.std.proofs.Common.{map, string_bytes, sym, ap, ◌∙◌, rules}
use Rattle.std.proofs.lemmas.Result.{err_from_is_err_and}
use Rattle.ob_schema.specs.Facts.{asked-then}
use Rattle.ob_domain.proofs.Below.{below_from_texts, is_below}
use Rattle.ob_domain.proofs.AnyOf.{any_found, any_passed}
use Rattle.ob_domain.proofs.Asking.{asked_none, fault_behind}
use Rattle.ob_domain.proofs.tree.some_below.Goals as goal

pub returns-then-branch-clause-told : goal.returns-then-branch-clause-told
returns-then-branch-clause-told g c =
    λ told tells. sym (c.loop-lower.invariant.none told tells ∙ any_found (is_below told c.args.paths c.args.uppers.now) c.args.lowers.now c.loop-lower.lower-index _ c.loop-lower-test.true
    (below_from_texts told c.args.paths c.args.uppers.now c.as_slice.result.now _ c.in_ok-stands_below.field-0
    (ap (map string_bytes) c.as_slice.ensures.value ∙ c.in_ok-texts.ensures) (c.in_ok-stands_below.ensures.told told (c.loop-lower.invariant.kept told tells)) ∙ c.if-branch.true))

pub loop-lower-preserved : goal.loop-lower-preserved
loop-lower-preserved g c =
    record {
      none = λ told tells. c.loop-lower.invariant.none told tells ∙ any_passed (is_below told c.args.paths c.args.uppers.now) c.args.lowers.now c.loop-lower.lower-index _ c.loop-lower-test.true
          (below_from_texts told c.args.paths c.args.uppers.now c.as_slice.result.now _ c.in_ok-stands_below.field-0
          (ap (map string_bytes) c.as_slice.ensures.value ∙ c.in_ok-texts.ensures) (c.in_ok-stands_below.ensures.told told (c.loop-lower.invariant.kept told tells)) ∙ c.if-branch.false);
      asked = asked-then _ _ _ c.loop-lower.invariant.asked c.stands_below.ensures.asked;
      same = c.stands_below.ensures.same ∙ c.loop-lower.invariant.same;
      kept = λ told tells. c.stands_below.ensures.kept told (c.loop-lower.invariant.kept told tells);
      only = λ told tells. c.loop-lower.invariant.only told (c.stands_below.ensures.only told tells);
    }

pub returns-in_err-texts-clause-asked : goal.returns-in_err-texts-clause-asked
returns-in_err-texts-clause-asked g c = asked_none _

pub loop-lower-init : goal.loop-lower-init
loop-lower-init g c = search (rules, asked_none)

pub returns-in_err-stands_below-clause-fault : goal.returns-in_err-stands_below-clause-fault
returns-in_err-stands_below-clause-fault g c =
    let p = err_from_is_err_and c.from_residual-in_err-stands_below.result c.from_residual-in_err-stands_below.ensures.1 in
    rw (p.1, p.2) (fault_behind g.F.Facts.has_failed _ _ c.stands_below.new.facts c.in_err-stands_below.field-0.0 c.loop-lower.invariant.asked c.in_err-stands_below.ensures.fault)

pub returns-in_err-stands_below-clause-asked : goal.returns-in_err-stands_below-clause-asked
returns-in_err-stands_below-clause-asked g c = asked-then _ _ _ c.loop-lower.invariant.asked c.stands_below.ensures.asked

pub returns-then-branch-clause-asked : goal.returns-then-branch-clause-asked
returns-then-branch-clause-asked g c = asked-then _ _ _ c.loop-lower.invariant.asked c.stands_below.ensures.asked
