-- One rule more.
use Rattle.std.proofs.Common.{◌++◌, List, sym, ap, ◌∙◌, filter, map}
use Rattle.std.proofs.lemmas.List.{append-nil, drop_all}
use Rattle.ob_access.specs.Index.{asks_for, list_at, rules_at}
use Rattle.ob_access.specs.Policies.{RuleData, rule_data}
use Rattle.ob_access.specs.declared.policy.Rule.{Rule}
use Rattle.ob_access.proofs.Indexing.{places_turn, rules_turn_at}
use Rattle.ob_access.proofs.index.index_of_rules.Goals as goal

pub loop-place-preserved : goal.loop-place-preserved
loop-place-preserved c = record {
  rules = λ model op. rules_turn_at (λ (rule : RuleData). asks_for model op rule.model rule.ops) c.args.rules.now c.loop-place.place c.index-rules-place.result c.index-rules-place.is
      (list_at c.loop-place.index model op) (list_at c.add.new.index model op) c.loop-place-test.true (c.in_ok-add.ensures model op) ∙ c.loop-place.invariant.rules model op;
  places = λ model op. places_turn (λ (rule : RuleData). asks_for model op rule.model rule.ops) c.args.rules.now c.loop-place.place _
      (list_at c.loop-place.index model op) (list_at c.add.new.index model op) c.loop-place-test.true (c.in_ok-add.ensures model op) (c.loop-place.invariant.places model op);
}

pub returns : goal.returns
returns c = λ model op. (
  sym (append-nil (rules_at c.args.rules.now (list_at c.loop-place.index model op)))
      ∙ sym (ap (λ (rest : List Rule). rules_at c.args.rules.now (list_at c.loop-place.index model op) ++ filter (λ (rule : RuleData). asks_for model op rule.model rule.ops) (map rule_data rest))
      (drop_all c.loop-place.place c.args.rules.now c.loop-place-test.false)) ∙ c.loop-place.invariant.rules model op,
  c.loop-place.invariant.places model op,
)
