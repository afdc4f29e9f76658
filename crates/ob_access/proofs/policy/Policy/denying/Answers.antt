-- The walks over the model's rules for the operation find the rule that denies.
use Rattle.std.proofs.Common.{◌≡◌, ◌&&◌, List, Bool, All, not, ap, sym, subst, ◌∙◌}
use Rattle.std.specs.Prelude.{find}
use Rattle.ob_domain.specs.Over.{IsOver}
use Rattle.ob_expr.specs.Meaning.{row_at}
use Rattle.ob_schema.specs.declared.info.ModelInfo.{ModelInfo}
use Rattle.ob_schema.specs.Facts.{asked-then}
use Rattle.ob_access.specs.Admission.{is_global, is_met, rules_for}
use Rattle.ob_access.specs.Asked.{first_unmet}
use Rattle.ob_access.specs.Groups.{is_superuser}
use Rattle.ob_access.specs.Index.{rules_at}
use Rattle.ob_access.specs.Policies.{PolicyData, RuleData, rule_data}
use Rattle.ob_access.specs.declared.policy.Rule.{Rule}
use Rattle.ob_access.proofs.Ruled.{by_global, by_group, if_ok, rules_over}
use Rattle.ob_access.proofs.Asking.{answered_behind, asked_none}
use Rattle.ob_access.proofs.policy.Policy.denying.Goals as goal

pub failing_global-requires-clause-over : goal.failing_global-requires-clause-over
failing_global-requires-clause-over g c =
    let walk : rules_at c.as_slice-rules.result.now c.listed-places.result.now ≡ rules_for c.args.self.now c.args.case.model c.args.op =
    ap (λ (rs : List Rule). rules_at rs c.listed-places.result.now) c.as_slice-rules.ensures ∙ ap (rules_at c.self.inside.rules) c.listed-places.ensures
    ∙ (c.self.invariant.rules c.args.case.model c.args.op).0 ∙ ap (λ (p : PolicyData). rules_for p c.args.case.model c.args.op) c.self.view_is in
    subst (All (λ (rule : RuleData). IsOver (g.F.Facts.registry c.args.facts.now) c.args.case.model rule.asks)) (sym walk)
    (rules_over (g.F.Facts.registry c.args.facts.now) c.args.self.now.groups c.args.case.model c.args.op c.args.self.now.rules c.requires.over.rules)

pub unmet_group-requires-clause-over : goal.unmet_group-requires-clause-over
unmet_group-requires-clause-over g c =
    let walk : rules_at c.as_slice-rules.result.now c.listed-places.result.now ≡ rules_for c.args.self.now c.args.case.model c.args.op =
    ap (λ (rs : List Rule). rules_at rs c.listed-places.result.now) c.as_slice-rules.ensures ∙ ap (rules_at c.self.inside.rules) c.listed-places.ensures
    ∙ (c.self.invariant.rules c.args.case.model c.args.op).0 ∙ ap (λ (p : PolicyData). rules_for p c.args.case.model c.args.op) c.self.view_is in
    subst (λ (models : List ModelInfo). All (λ (rule : RuleData). IsOver models c.args.case.model rule.asks) (rules_at c.as_slice-rules.result.now c.listed-places.result.now)) (sym c.failing_global.ensures.same)
    (subst (All (λ (rule : RuleData). IsOver (g.F.Facts.registry c.args.facts.now) c.args.case.model rule.asks)) (sym walk)
    (rules_over (g.F.Facts.registry c.args.facts.now) c.args.self.now.groups c.args.case.model c.args.op c.args.self.now.rules c.requires.over.rules))

pub returns-then-is_some-clause-told : goal.returns-then-is_some-clause-told
returns-then-is_some-clause-told g c =
    let walk : rules_at c.as_slice-rules.result.now c.listed-places.result.now ≡ rules_for c.args.self.now c.args.case.model c.args.op =
    ap (λ (rs : List Rule). rules_at rs c.listed-places.result.now) c.as_slice-rules.ensures ∙ ap (rules_at c.self.inside.rules) c.listed-places.ensures
    ∙ (c.self.invariant.rules c.args.case.model c.args.op).0 ∙ ap (λ (p : PolicyData). rules_for p c.args.case.model c.args.op) c.self.view_is in
    λ told tells. let m : RuleData → Bool = is_met told c.args.case.user (row_at c.args.case.model c.args.case.id) in
    by_global m c.args.groups.now (rules_for c.args.self.now c.args.case.model c.args.op) (is_superuser c.args.case.user) (λ r. rule_data r.now) c.in_ok-failing.failing
    (c.in_ok-failing.ensures.told told tells ∙ ap (find (λ (rule : RuleData). is_global rule && not (m rule))) walk)
    (sym c.is_superuser.ensures ∙ c.if-is_superuser.false) (sym c.is_some.ensures ∙ c.if-is_some.true)

pub returns-clause-told : goal.returns-clause-told
returns-clause-told g c =
    let walk : rules_at c.as_slice-rules.result.now c.listed-places.result.now ≡ rules_for c.args.self.now c.args.case.model c.args.op =
    ap (λ (rs : List Rule). rules_at rs c.listed-places.result.now) c.as_slice-rules.ensures ∙ ap (rules_at c.self.inside.rules) c.listed-places.ensures
    ∙ (c.self.invariant.rules c.args.case.model c.args.op).0 ∙ ap (λ (p : PolicyData). rules_for p c.args.case.model c.args.op) c.self.view_is in
    if_ok c.unmet_group.result _ _
    (λ unmet is told tells. let m : RuleData → Bool = is_met told c.args.case.user (row_at c.args.case.model c.args.case.id) in
    by_group m c.args.groups.now (rules_for c.args.self.now c.args.case.model c.args.op) (is_superuser c.args.case.user) (λ r. rule_data r.now) c.in_ok-failing.failing
    (c.in_ok-failing.ensures.told told tells ∙ ap (find (λ (rule : RuleData). is_global rule && not (m rule))) walk) unmet
    (sym c.is_superuser.ensures ∙ c.if-is_superuser.false) (sym c.is_some.ensures ∙ c.if-is_some.false)
    (is told (c.failing_global.ensures.kept told tells) ∙ ap (first_unmet m c.args.groups.now) walk))
    c.unmet_group.ensures.told

pub returns-then-is_superuser-clause-asked : goal.returns-then-is_superuser-clause-asked
returns-then-is_superuser-clause-asked g c = asked_none _

pub returns-clause-fault : goal.returns-clause-fault
returns-clause-fault g c = answered_behind g.F.Facts.has_failed _ _ c.unmet_group.new.facts c.unmet_group.result c.failing_global.ensures.asked c.unmet_group.ensures.fault

pub returns-clause-asked : goal.returns-clause-asked
returns-clause-asked g c = asked-then _ _ _ c.failing_global.ensures.asked c.unmet_group.ensures.asked
