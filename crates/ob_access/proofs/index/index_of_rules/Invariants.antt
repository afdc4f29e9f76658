-- The rules that are listed, and those of the rest, are the rules for what is asked; what is listed are places.
use Rattle.std.proofs.Common.{◌≡◌, ◌++◌, drop, filter, map}
use Rattle.ob_base.specs.declared.id.ModelNo.{ModelNo}
use Rattle.ob_base.specs.declared.refusal.Op.{Op}
use Rattle.ob_access.specs.Index.{ArePlaces, asks_for, list_at, rules_at}
use Rattle.ob_access.specs.Policies.{RuleData, rule_data}
use Rattle.ob_access.proofs.index.index_of_rules.Given as goal

abbrev pub invariant-loop-place : goal.invariant-loop-place
invariant-loop-place l = record {
  rules : (model : ModelNo) (op : Op) → rules_at l.rules (list_at l.index model op) ++ filter (λ (rule : RuleData). asks_for model op rule.model rule.ops) (map rule_data (drop l.place l.rules))
      ≡ filter (λ (rule : RuleData). asks_for model op rule.model rule.ops) (map rule_data l.rules);
  places : (model : ModelNo) (op : Op) → ArePlaces l.rules (list_at l.index model op);
}
