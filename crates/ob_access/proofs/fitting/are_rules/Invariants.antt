-- The rules so far fit.
use Rattle.std.proofs.Common.{All, take}
use Rattle.ob_access.specs.Policies.{IsRuleOver, rule_data}
use Rattle.ob_access.specs.declared.policy.Rule.{Rule}
use Rattle.ob_access.proofs.fitting.are_rules.Given as goal

abbrev pub invariant-loop-rule : goal.invariant-loop-rule
invariant-loop-rule l = All (λ (rule : Rule). IsRuleOver l.schema l.groups (rule_data rule)) (take l.rule-index l.rules)
