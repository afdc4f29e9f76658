-- Of the rules so far none failed, so the first that fails is among the rest; what was told still is, and nothing else.
use Rattle.std.proofs.Common.{◌≡◌, ◌&&◌, All, not, drop}
use Rattle.std.specs.Prelude.{find}
use Rattle.ob_domain.specs.Over.{IsOver}
use Rattle.ob_expr.specs.Meaning.{row_at}
use Rattle.ob_schema.specs.Facts.{Asked, OfAllTold}
use Rattle.ob_access.specs.Admission.{is_global, is_met}
use Rattle.ob_access.specs.Index.{ArePlaces, rules_at}
use Rattle.ob_access.specs.Policies.{RuleData}
use Rattle.ob_access.proofs.admission.failing_global.Given as goal

abbrev pub invariant-loop-place : goal.invariant-loop-place
invariant-loop-place g l = record {
  first : OfAllTold (g.F.Facts.tells l.fn.facts)
      (λ told. find (λ (rule : RuleData). is_global rule && not (is_met told l.case.user (row_at l.case.model l.case.id) rule)) (rules_at l.rules (drop l.place-index l.places))
      ≡ find (λ (rule : RuleData). is_global rule && not (is_met told l.case.user (row_at l.case.model l.case.id) rule)) (rules_at l.rules l.places));
  over : All (λ (rule : RuleData). IsOver (g.F.Facts.registry l.fn.facts) l.case.model rule.asks) (rules_at l.rules (drop l.place-index l.places));
  places : ArePlaces l.rules (drop l.place-index l.places);
  asked : Asked g.F.Facts.asks l.fn.facts l.facts;
  same : g.F.Facts.registry l.facts ≡ g.F.Facts.registry l.fn.facts;
  kept : OfAllTold (g.F.Facts.tells l.fn.facts) (g.F.Facts.tells l.facts);
  only : OfAllTold (g.F.Facts.tells l.facts) (g.F.Facts.tells l.fn.facts);
}
