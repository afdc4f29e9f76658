-- What is wrong with how fields read one another, put together from what is wrong with each alone, with circles and with long chains.
use Rattle.std.proofs.Common.{◌≡◌, ◌⊎◌, inl, inr, suc, Bool, true, false, List, Option, None, refl, subst}
use Rattle.std.specs.Bool.{then_some}
use Rattle.std.specs.Prelude.{◌↔◌, IsTrue}
use Rattle.std.proofs.lemmas.Bool.{false≢true}
use Rattle.ob_base.specs.Limits.{max_stratum}
use Rattle.ob_definition.specs.declared.fault.SchemaFault.{SchemaFault}
use Rattle.ob_definition.specs.declared.wrong.Wrong.{Wrong}
use Rattle.ob_definition.specs.declared.wrong.Wrong.TheVariants as wrong
use Rattle.ob_definition.specs.Findings.{Adds, IsFoundBy, Tells, fault_at}
use Rattle.ob_definition.specs.Gathered.{Gathered}
use Rattle.ob_definition.specs.Members.{Member}
use Rattle.ob_definition.proofs.CallerLemmas.{Adds-both, Adds-same}
use Rattle.ob_schema.specs.declared.info.Step.{Step}
use Rattle.ob_registry.specs.Graphs.{IsChainWrong, IsCycleWrong, IsLongWrong, IsSelfWrong, IsStepFault}
use Rattle.ob_schema.specs.Strata.{Chain, IsMember, IsOnCycle, IsPastStrata}
use Rattle.ob_registry.specs.Telling.{spot_of}
use Rattle.ob_registry.proofs.ChainsOver.{on-cycle_step}
use Rattle.ob_registry.proofs.GivenStrata.{chain-member}
use Rattle.ob_registry.proofs.SelfReading.{told-none, told-one}

module _ (models : List Gathered) (step : Step) (m : Member) where
  -- what is wrong with a long chain, and with a circle, is one thing
  long-only : (w : Wrong) → IsLongWrong models step m w → IsPastStrata models step × (w ≡ wrong.Limit)
  long-only wrong.Limit is = (is, refl)
  long-only _ is = absurd is

  cycle-only : (w : Wrong) → IsCycleWrong models step m w → IsOnCycle models step × (w ≡ wrong.Cycle)
  cycle-only wrong.Cycle is = (is, refl)
  cycle-only _ is = absurd is

  -- what is told of a long chain, and of a circle, by whether there is one
  pub long-tells : (is : Bool) → IsTrue is ↔ IsPastStrata models step → Tells (IsLongWrong models step m) (then_some is wrong.Limit)
  long-tells true by = told-one (IsLongWrong models step m) wrong.Limit (by.0 refl) (λ w is. (long-only w is).1)
  long-tells false by = told-none (IsLongWrong models step m) (λ w is. false≢true (by.1 (long-only w is).0))

  pub cycle-tells : (is : Bool) → IsTrue is ↔ IsOnCycle models step → Tells (IsCycleWrong models step m) (then_some is wrong.Cycle)
  cycle-tells true by = told-one (IsCycleWrong models step m) wrong.Cycle (by.0 refl) (λ w is. (cycle-only w is).1)
  cycle-tells false by = told-none (IsCycleWrong models step m) (λ w is. false≢true (by.1 (cycle-only w is).0))

  -- a chain's fault is one of the three
  one-of : (w : Wrong) → (IsSelfWrong models step m w ⊎ IsCycleWrong models step m w) ⊎ IsLongWrong models step m w → IsChainWrong models step m w
  one-of wrong.Cycle (inl (inl self)) = inr self
  one-of wrong.Cycle (inl (inr on)) = inl on
  one-of wrong.Cycle (inr is) = absurd is
  one-of wrong.Recursion (inl (inl is)) = is
  one-of wrong.Recursion (inl (inr is)) = absurd is
  one-of wrong.Recursion (inr is) = absurd is
  one-of wrong.Limit (inl (inl is)) = absurd is
  one-of wrong.Limit (inl (inr is)) = absurd is
  one-of wrong.Limit (inr is) = is
  one-of _ (inl (inl is)) = absurd is
  one-of _ (inl (inr is)) = absurd is
  one-of _ (inr is) = absurd is

  parts : (w : Wrong) → IsChainWrong models step m w → (IsSelfWrong models step m w ⊎ IsCycleWrong models step m w) ⊎ IsLongWrong models step m w
  parts wrong.Cycle (inl on) = inl (inr on)
  parts wrong.Cycle (inr self) = inl (inl self)
  parts wrong.Recursion is = inl (inl is)
  parts wrong.Limit is = inr is
  parts _ is = absurd is

module _ (models : List Gathered) where
  -- the faults of each kind, one after another, are those of chains
  pub all-three : (a b c d : Option SchemaFault) → Adds (IsStepFault models (IsSelfWrong models)) a b → Adds (IsStepFault models (IsCycleWrong models)) b c → Adds (IsStepFault models (IsLongWrong models)) c d
      → Adds (IsStepFault models (IsChainWrong models)) a d
  all-three a b c d first second third =
      Adds-same (λ why. (IsStepFault models (IsSelfWrong models) why ⊎ IsStepFault models (IsCycleWrong models) why) ⊎ IsStepFault models (IsLongWrong models) why) (IsStepFault models (IsChainWrong models)) a d to from
      (Adds-both (λ why. IsStepFault models (IsSelfWrong models) why ⊎ IsStepFault models (IsCycleWrong models) why) (IsStepFault models (IsLongWrong models)) a c d
      (Adds-both (IsStepFault models (IsSelfWrong models)) (IsStepFault models (IsCycleWrong models)) a b c first second) third)
    where
      to : (why : SchemaFault) → (IsStepFault models (IsSelfWrong models) why ⊎ IsStepFault models (IsCycleWrong models) why) ⊎ IsStepFault models (IsLongWrong models) why → IsStepFault models (IsChainWrong models) why
      to why (inl (inl (step, g, m, is, (w, of, e)))) = (step, g, m, is, (w, one-of models step m w (inl (inl of)), e))
      to why (inl (inr (step, g, m, is, (w, of, e)))) = (step, g, m, is, (w, one-of models step m w (inl (inr of)), e))
      to why (inr (step, g, m, is, (w, of, e))) = (step, g, m, is, (w, one-of models step m w (inr of), e))

      from : (why : SchemaFault) → IsStepFault models (IsChainWrong models) why → (IsStepFault models (IsSelfWrong models) why ⊎ IsStepFault models (IsCycleWrong models) why) ⊎ IsStepFault models (IsLongWrong models) why
      from why (step, g, m, is, (w, of, e)) = elim (parts models step m w of) [
        | inl one ↦ elim one [ inl self ↦ inl (inl (step, g, m, is, (w, self, e))) | inr cycle ↦ inl (inr (step, g, m, is, (w, cycle, e))) ]
        | inr long ↦ inr (step, g, m, is, (w, long, e))
      ]

  -- where nothing is found, nothing is wrong with the chains of a field
  none-wrong : (a d : Option SchemaFault) → Adds (IsStepFault models (IsChainWrong models)) a d → d ≡ None → (step : Step) (g : Gathered) (m : Member) → IsMember models step g m → (w : Wrong)
      → IsChainWrong models step m w → ⊥
  none-wrong a d adds none step g m is w wrong =
      subst (λ (o : Option SchemaFault). IsFoundBy o (fault_at w (spot_of m))) none (adds.least (fault_at w (spot_of m)) (step, g, m, is, (w, wrong, refl)))

  -- and none is past the greatest stratum: no circle is there to be met
  pub none-long : (a d : Option SchemaFault) → Adds (IsStepFault models (IsChainWrong models)) a d → d ≡ None → (step : Step) → Chain models (suc max_stratum) step → ⊥
  none-long a d adds none step chain =
      let own = chain-member models max_stratum step chain in
      none-wrong a d adds none step own.0 own.1 own.2 wrong.Limit
      (chain, λ (b, reach, on). let other = on-cycle_step models b on in none-wrong a d adds none b other.0 other.1 other.2 wrong.Cycle (inl on))
