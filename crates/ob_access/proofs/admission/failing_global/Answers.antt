-- The rule at the next place fails, or the first that does is behind it.
use Rattle.std.proofs.Common.{◌<◌, ◌&&◌, ℕ, Bool, List, not, length, sym, subst, ◌∙◌, rules}
use Rattle.std.proofs.lemmas.Result.{err_from_is_err_and}
use Rattle.ob_domain.specs.Over.{IsOver}
use Rattle.ob_expr.specs.Meaning.{row_at}
use Rattle.ob_schema.specs.Facts.{asked-then}
use Rattle.ob_schema.specs.declared.info.ModelInfo.{ModelInfo}
use Rattle.ob_access.specs.Admission.{is_global, is_met}
use Rattle.ob_access.specs.Policies.{RuleData, rule_data}
use Rattle.ob_access.proofs.Walking.{found_later, found_now, next_holds, place_holds, places_hold, rest_holds}
use Rattle.ob_access.proofs.Asking.{asked_none, fault_behind}
use Rattle.ob_access.proofs.admission.failing_global.Goals as goal

pub fails-requires-clause-over : goal.fails-requires-clause-over
fails-requires-clause-over g c =
    subst (λ (models : List ModelInfo). IsOver models c.args.case.model (rule_data c.index-rules-place.result).asks) (sym c.loop-place.invariant.same)
    (next_holds c.args.rules.now c.args.places.now c.loop-place.place-index c.index-rules-place.result c.loop-place-test.true
    (place_holds (λ (place : ℕ). place < length c.args.rules.now) c.args.places.now c.loop-place.place-index c.loop-place-test.true c.loop-place.invariant.places)
    c.index-rules-place.is (λ (rule : RuleData). IsOver (g.F.Facts.registry c.args.facts.now) c.args.case.model rule.asks) c.loop-place.invariant.over)

pub returns-then-branch-clause-told : goal.returns-then-branch-clause-told
returns-then-branch-clause-told g c = λ told tells.
    let p : RuleData → Bool = λ rule. is_global rule && not (is_met told c.args.case.user (row_at c.args.case.model c.args.case.id) rule) in
    sym (found_now c.args.rules.now c.args.places.now c.loop-place.place-index c.index-rules-place.result c.loop-place-test.true
    (place_holds (λ (place : ℕ). place < length c.args.rules.now) c.args.places.now c.loop-place.place-index c.loop-place-test.true c.loop-place.invariant.places)
    c.index-rules-place.is p
    (sym (c.in_ok-fails.ensures.told told (c.loop-place.invariant.kept told tells)) ∙ c.if-branch.true))
    ∙ c.loop-place.invariant.first told tells

pub loop-place-preserved : goal.loop-place-preserved
loop-place-preserved g c =
    let there : _ = place_holds (λ (place : ℕ). place < length c.args.rules.now) c.args.places.now c.loop-place.place-index c.loop-place-test.true c.loop-place.invariant.places in record {
      first = λ told tells. sym (found_later c.args.rules.now c.args.places.now c.loop-place.place-index c.index-rules-place.result c.loop-place-test.true there c.index-rules-place.is
          (λ (rule : RuleData). is_global rule && not (is_met told c.args.case.user (row_at c.args.case.model c.args.case.id) rule))
          (sym (c.in_ok-fails.ensures.told told (c.loop-place.invariant.kept told tells)) ∙ c.if-branch.false)) ∙ c.loop-place.invariant.first told tells;
      over = rest_holds c.args.rules.now c.args.places.now c.loop-place.place-index c.index-rules-place.result c.loop-place-test.true there c.index-rules-place.is
          (λ (rule : RuleData). IsOver (g.F.Facts.registry c.args.facts.now) c.args.case.model rule.asks) c.loop-place.invariant.over;
      places = places_hold (λ (place : ℕ). place < length c.args.rules.now) c.args.places.now c.loop-place.place-index c.loop-place-test.true c.loop-place.invariant.places;
      asked = asked-then _ _ _ c.loop-place.invariant.asked c.fails.ensures.asked;
      same = c.fails.ensures.same ∙ c.loop-place.invariant.same;
      kept = λ told tells. c.fails.ensures.kept told (c.loop-place.invariant.kept told tells);
      only = λ told tells. c.loop-place.invariant.only told (c.fails.ensures.only told tells);
    }

pub loop-place-init : goal.loop-place-init
loop-place-init g c = search (rules, asked_none)

pub returns-in_err-fails-clause-fault : goal.returns-in_err-fails-clause-fault
returns-in_err-fails-clause-fault g c =
    let p = err_from_is_err_and c.from_residual.result c.from_residual.ensures.1 in
    rw (p.1, p.2) (fault_behind g.F.Facts.has_failed _ _ c.fails.new.facts c.in_err-fails.field-0.0 c.loop-place.invariant.asked c.in_err-fails.ensures.fault)

pub returns-in_err-fails-clause-asked : goal.returns-in_err-fails-clause-asked
returns-in_err-fails-clause-asked g c = asked-then _ _ _ c.loop-place.invariant.asked c.fails.ensures.asked

pub returns-then-branch-clause-asked : goal.returns-then-branch-clause-asked
returns-then-branch-clause-asked g c = asked-then _ _ _ c.loop-place.invariant.asked c.fails.ensures.asked
