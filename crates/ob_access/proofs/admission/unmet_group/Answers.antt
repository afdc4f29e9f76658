-- The rule at the next place is met, or is kept if it is the first that applies.
use Rattle.std.proofs.Common.{◌<◌, ◌+◌, ℕ, Bool, List, Option, length, drop, ap, sym, subst, ◌∙◌, rules}
use Rattle.std.specs.Prelude.{option_map}
use Rattle.std.proofs.lemmas.Result.{err_from_is_err_and}
use Rattle.ob_domain.specs.Over.{IsOver}
use Rattle.ob_expr.specs.Meaning.{row_at}
use Rattle.ob_schema.specs.Facts.{Asked, asked-then}
use Rattle.ob_schema.specs.declared.info.ModelInfo.{ModelInfo}
use Rattle.ob_access.specs.Admission.{is_met}
use Rattle.ob_access.specs.Index.{rules_at}
use Rattle.ob_access.specs.Policies.{RuleData, rule_data}
use Rattle.ob_access.proofs.Walking.{met_now, next_holds, next_rule, passed_over, place_holds, places_hold, rest_holds, unmet_from, unmet_now}
use Rattle.ob_access.proofs.Asking.{asked_none, fault_behind}
use Rattle.ob_access.proofs.admission.unmet_group.Goals as goal
use Rattle.ob_access.proofs.admission.unmet_group.Goals.{then-applies_to+in_ok-is_met+else-branch, else-applies_to}

pub is_met-requires-clause-over : goal.is_met-requires-clause-over
is_met-requires-clause-over g c =
    subst (λ (models : List ModelInfo). IsOver models c.args.case.model (rule_data c.index-rules-place.result).asks) (sym c.loop-place.invariant.same)
    (next_holds c.args.rules.now c.args.places.now c.loop-place.place-index c.index-rules-place.result c.loop-place-test.true
    (place_holds (λ (place : ℕ). place < length c.args.rules.now) c.args.places.now c.loop-place.place-index c.loop-place-test.true c.loop-place.invariant.places)
    c.index-rules-place.is (λ (rule : RuleData). IsOver (g.F.Facts.registry c.args.facts.now) c.args.case.model rule.asks) c.loop-place.invariant.over)

pub returns-then-branch-clause-told : goal.returns-then-branch-clause-told
returns-then-branch-clause-told g c = λ told tells.
    let m : RuleData → Bool = is_met told c.args.case.user (row_at c.args.case.model c.args.case.id) in
    let first : Option RuleData = option_map (λ r. rule_data r.now) c.loop-place.first in
    sym (ap (unmet_from m c.args.groups.now first) (next_rule c.args.rules.now c.args.places.now c.loop-place.place-index c.index-rules-place.result c.loop-place-test.true
    (place_holds (λ (place : ℕ). place < length c.args.rules.now) c.args.places.now c.loop-place.place-index c.loop-place-test.true c.loop-place.invariant.places) c.index-rules-place.is)
    ∙ met_now m c.args.groups.now first (rule_data c.index-rules-place.result) (rules_at c.args.rules.now (drop (c.loop-place.place-index + 1) c.args.places.now)) (sym c.applies_to.ensures ∙ c.if-applies_to.true)
    (sym (c.in_ok-is_met.ensures.told told (c.loop-place.invariant.kept told tells)) ∙ c.if-branch.true))
    ∙ c.loop-place.invariant.first told tells

pub loop-place-preserved : goal.loop-place-preserved
loop-place-preserved g c =
    let there : _ = place_holds (λ (place : ℕ). place < length c.args.rules.now) c.args.places.now c.loop-place.place-index c.loop-place-test.true c.loop-place.invariant.places in
    let next : _ = next_rule c.args.rules.now c.args.places.now c.loop-place.place-index c.index-rules-place.result c.loop-place-test.true there c.index-rules-place.is in
    let over : _ = rest_holds c.args.rules.now c.args.places.now c.loop-place.place-index c.index-rules-place.result c.loop-place-test.true there c.index-rules-place.is
    (λ (rule : RuleData). IsOver (g.F.Facts.registry c.args.facts.now) c.args.case.model rule.asks) c.loop-place.invariant.over in
    let places : _ = places_hold (λ (place : ℕ). place < length c.args.rules.now) c.args.places.now c.loop-place.place-index c.loop-place-test.true c.loop-place.invariant.places in
    elim c.if-applies_to.branch [
      | then-applies_to+in_ok-is_met+else-branch w ↦ record {
        first = λ told tells. let m : RuleData → Bool = is_met told c.args.case.user (row_at c.args.case.model c.args.case.id) in
            ap (λ first. unmet_from m c.args.groups.now (option_map (λ r. rule_data r.now) first) (rules_at c.args.rules.now (drop (c.loop-place.place-index + 1) c.args.places.now))) w.first-is
            ∙ ap (λ (first : Option RuleData). unmet_from m c.args.groups.now first (rules_at c.args.rules.now (drop (c.loop-place.place-index + 1) c.args.places.now))) w.first_of-first.ensures
            ∙ sym (ap (unmet_from m c.args.groups.now (option_map (λ r. rule_data r.now) c.loop-place.first)) next
            ∙ unmet_now m c.args.groups.now (option_map (λ r. rule_data r.now) c.loop-place.first) (rule_data c.index-rules-place.result)
            (rules_at c.args.rules.now (drop (c.loop-place.place-index + 1) c.args.places.now)) (sym c.applies_to.ensures ∙ w.if-applies_to.true)
            (sym (w.in_ok-is_met.ensures.told told (c.loop-place.invariant.kept told tells)) ∙ w.if-branch.false))
            ∙ c.loop-place.invariant.first told tells;
        over = over;
        places = places;
        asked = subst (λ facts. Asked g.F.Facts.asks c.args.facts.now facts) (sym w.facts-is) (asked-then _ _ _ c.loop-place.invariant.asked w.is_met.ensures.asked);
        same = ap g.F.Facts.registry w.facts-is ∙ w.is_met.ensures.same ∙ c.loop-place.invariant.same;
        kept = λ told tells. subst (λ facts. g.F.Facts.tells facts told) (sym w.facts-is) (w.is_met.ensures.kept told (c.loop-place.invariant.kept told tells));
        only = λ told tells. c.loop-place.invariant.only told (w.is_met.ensures.only told (subst (λ facts. g.F.Facts.tells facts told) w.facts-is tells));
      }
      | else-applies_to w ↦ record {
        first = λ told tells. let m : RuleData → Bool = is_met told c.args.case.user (row_at c.args.case.model c.args.case.id) in
            ap (λ first. unmet_from m c.args.groups.now (option_map (λ r. rule_data r.now) first) (rules_at c.args.rules.now (drop (c.loop-place.place-index + 1) c.args.places.now))) w.first-is
            ∙ sym (ap (unmet_from m c.args.groups.now (option_map (λ r. rule_data r.now) c.loop-place.first)) next
            ∙ passed_over m c.args.groups.now (option_map (λ r. rule_data r.now) c.loop-place.first) (rule_data c.index-rules-place.result)
            (rules_at c.args.rules.now (drop (c.loop-place.place-index + 1) c.args.places.now)) (sym c.applies_to.ensures ∙ w.if-applies_to.false))
            ∙ c.loop-place.invariant.first told tells;
        over = over;
        places = places;
        asked = subst (λ facts. Asked g.F.Facts.asks c.args.facts.now facts) (sym w.facts-is) c.loop-place.invariant.asked;
        same = ap g.F.Facts.registry w.facts-is ∙ c.loop-place.invariant.same;
        kept = λ told tells. subst (λ facts. g.F.Facts.tells facts told) (sym w.facts-is) (c.loop-place.invariant.kept told tells);
        only = λ told tells. c.loop-place.invariant.only told (subst (λ facts. g.F.Facts.tells facts told) w.facts-is tells);
      }
    ]

pub loop-place-init : goal.loop-place-init
loop-place-init g c = search (rules, asked_none)

pub returns-in_err-is_met-clause-fault : goal.returns-in_err-is_met-clause-fault
returns-in_err-is_met-clause-fault g c =
    let p = err_from_is_err_and c.from_residual.result c.from_residual.ensures.1 in
    rw (p.1, p.2) (fault_behind g.F.Facts.has_failed _ _ c.is_met.new.facts c.in_err-is_met.field-0.0 c.loop-place.invariant.asked c.in_err-is_met.ensures.fault)

pub returns-in_err-is_met-clause-asked : goal.returns-in_err-is_met-clause-asked
returns-in_err-is_met-clause-asked g c = asked-then _ _ _ c.loop-place.invariant.asked c.is_met.ensures.asked

pub returns-then-branch-clause-asked : goal.returns-then-branch-clause-asked
returns-then-branch-clause-asked g c = asked-then _ _ _ c.loop-place.invariant.asked c.is_met.ensures.asked
