-- None of the rules that applied so far was met, and the first of them is kept; what was told still is, and nothing else.
use Rattle.std.proofs.Common.{◌≡◌, All, drop}
use Rattle.std.specs.Prelude.{option_map}
use Rattle.ob_domain.specs.Over.{IsOver}
use Rattle.ob_expr.specs.Meaning.{row_at}
use Rattle.ob_schema.specs.Facts.{Asked, OfAllTold}
use Rattle.ob_access.specs.Admission.{is_met}
use Rattle.ob_access.specs.Asked.{first_unmet}
use Rattle.ob_access.specs.Index.{ArePlaces, rules_at}
use Rattle.ob_access.specs.Policies.{RuleData, rule_data}
use Rattle.ob_access.proofs.Walking.{unmet_from}
use Rattle.ob_access.proofs.admission.unmet_group.Given as goal

abbrev pub invariant-loop-place : goal.invariant-loop-place
invariant-loop-place g l = record {
  first : OfAllTold (g.F.Facts.tells l.fn.facts) (λ told.
      unmet_from (is_met told l.case.user (row_at l.case.model l.case.id)) l.groups (option_map (λ r. rule_data r.now) l.first) (rules_at l.rules (drop l.place-index l.places))
      ≡ first_unmet (is_met told l.case.user (row_at l.case.model l.case.id)) l.groups (rules_at l.rules l.places));
  over : All (λ (rule : RuleData). IsOver (g.F.Facts.registry l.fn.facts) l.case.model rule.asks) (rules_at l.rules (drop l.place-index l.places));
  places : ArePlaces l.rules (drop l.place-index l.places);
  asked : Asked g.F.Facts.asks l.fn.facts l.facts;
  same : g.F.Facts.registry l.facts ≡ g.F.Facts.registry l.fn.facts;
  kept : OfAllTold (g.F.Facts.tells l.fn.facts) (g.F.Facts.tells l.facts);
  only : OfAllTold (g.F.Facts.tells l.facts) (g.F.Facts.tells l.fn.facts);
}
