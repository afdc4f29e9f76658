-- The verdict on definitions, from what the rooms found.
use Rattle.std.proofs.Common.{◌≡◌, inl, inr, List, Option, Some, None, subst}
use Rattle.ob_definition.specs.declared.definition.ModelDef.{ModelDef}
use Rattle.ob_definition.specs.declared.fault.SchemaFault.{SchemaFault}
use Rattle.ob_registry.specs.Faults.{IsFaultless, IsFaulty, IsFirst}
use Rattle.ob_definition.specs.Findings.{Adds, IsFoundBy}

no_fault : (why : SchemaFault) → ◌≡◌ {A = Option SchemaFault} None (Some why) → ⊥
no_fault why e = cc

pub IsFirst-from : (defs : List ModelDef) (new : Option SchemaFault) (first : SchemaFault) → Adds (IsFaulty defs) None new → new ≡ Some first → IsFirst defs first
IsFirst-from defs new first adds is = record {
  there = elim (adds.among first is) as (λ _. IsFaulty defs first) [ inl old ↦ absurd (no_fault first old) | inr found ↦ found ];
  none_before = λ other faulty. subst (λ (o : Option SchemaFault). IsFoundBy o other) is (adds.least other faulty);
}

pub IsFaultless-from : (defs : List ModelDef) (new : Option SchemaFault) → Adds (IsFaulty defs) None new → new ≡ None → IsFaultless defs
IsFaultless-from defs new adds is = λ why faulty. subst (λ (o : Option SchemaFault). IsFoundBy o why) is (adds.least why faulty)
