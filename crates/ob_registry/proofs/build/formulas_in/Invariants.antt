use Rattle.std.proofs.Common.{take}
use Rattle.std.specs.List.{AllZip}
use Rattle.ob_definition.specs.Findings.{Adds}
use Rattle.ob_registry.specs.ModelFields.{member_of, members_in}
use Rattle.ob_registry.specs.Telling.{AreFaultsOf, IsFormulaOf}
use Rattle.ob_registry.proofs.build.formulas_in.Given as goal

abbrev pub invariant-loop-member : goal.invariant-loop-member
invariant-loop-member l = record {
  formulas : AllZip (λ m formula. IsFormulaOf (record { models = l.models; number = l.number; member = member_of m }) formula) (take l.member-index l.members) l.formulas.items;
  faults : Adds (AreFaultsOf l.models l.number (members_in (take l.member-index l.members))) l.initial.first l.first;
}
