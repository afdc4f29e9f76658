-- What the policy sees of each rule fits exactly where each rule does.
use Rattle.std.proofs.Common.{All, refl, subst, sym, ◌∙◌}
use Rattle.std.proofs.lemmas.List.{take_all}
use Rattle.std.proofs.lemmas.List.Elements.{All-map, All-more}
use Rattle.ob_access.specs.Policies.{IsRuleOver, rule_data}
use Rattle.ob_access.specs.declared.policy.Rule.{Rule}
use Rattle.ob_access.proofs.Ruled.{All-from_map}
use Rattle.ob_access.proofs.fitting.are_rules.Goals as goal

pub loop-rule-preserved : goal.loop-rule-preserved
loop-rule-preserved c =
    All-more (λ (rule : Rule). IsRuleOver c.args.schema.now c.args.groups.now (rule_data rule)) c.args.rules.now c.loop-rule.rule-index c.rule-item.result c.loop-rule-test.true c.loop-rule.invariant
    (subst (λ (rule : Rule). IsRuleOver c.args.schema.now c.args.groups.now (rule_data rule)) c.rule-item.is (c.is_rule.ensures.0 c.if-not-is_rule.false))

pub returns-then-not-is_rule : goal.returns-then-not-is_rule
returns-then-not-is_rule c =
    let misfits = λ (fit : IsRuleOver c.args.schema.now c.args.groups.now (rule_data c.rule-item.result)). sym (c.is_rule.ensures.1 fit) ∙ c.if-not-is_rule.true in (
      λ e. absurd cc,
      λ all. sym (misfits (subst (λ (rule : Rule). IsRuleOver c.args.schema.now c.args.groups.now (rule_data rule)) (sym c.rule-item.is)
          (All-from_map (IsRuleOver c.args.schema.now c.args.groups.now) rule_data c.args.rules.now c.loop-rule.rule-index c.rule-item.result c.loop-rule-test.true all))),
    )

pub returns : goal.returns
returns c = (
  λ e. All-map (IsRuleOver c.args.schema.now c.args.groups.now) rule_data c.args.rules.now
      (subst (All (λ (rule : Rule). IsRuleOver c.args.schema.now c.args.groups.now (rule_data rule))) (take_all c.loop-rule.rule-index c.args.rules.now c.loop-rule-test.false) c.loop-rule.invariant),
  λ all. refl,
)
