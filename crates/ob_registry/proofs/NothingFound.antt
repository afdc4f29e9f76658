-- Models against which nothing was found, and what was found of others.
use Rattle.std.proofs.Common.{◌≡◌, inl, inr, List, Option, Some, None, refl, sym, subst}
use Rattle.ob_definition.specs.declared.fault.SchemaFault.{SchemaFault}
use Rattle.ob_definition.specs.Findings.{Adds, IsFoundBy}
use Rattle.ob_definition.specs.Gathered.{AreWellNamed, Gathered}
use Rattle.ob_definition.specs.Making.{AreMadeFaults}
use Rattle.ob_definition.proofs.CallerLemmas.{Adds-both}
use Rattle.ob_registry.specs.Building.{AreResolved}
use Rattle.ob_registry.specs.Resolving.{AreFew, AreModelFaults, AreResolvingFaults, IsEntered}

-- where nothing is found there is no such fault, and nothing was found before
pub none_found : (R : SchemaFault → Type 0) (a b : Option SchemaFault) → Adds R a b → b ≡ None → (why : SchemaFault) → R why → ⊥
none_found R a b adds is = λ why fault. subst (λ (o : Option SchemaFault). IsFoundBy o why) is (adds.least why fault)

pub none_before : (R : SchemaFault → Type 0) (a b : Option SchemaFault) → Adds R a b → b ≡ None → a ≡ None
none_before R None b adds is = refl
none_before R (Some why) b adds is = absurd (subst (λ (o : Option SchemaFault). IsFoundBy o why) is (adds.kept why refl))

-- so models are right
pub resolved : (models gathering : List Gathered) → models ≡ gathering → (a b : Option SchemaFault) → AreWellNamed gathering → (a ≡ None → IsEntered gathering)
    → Adds (AreResolvingFaults models) a b → b ≡ None → AreResolved models
resolved models gathering same a b named entered adds is =
    let none = none_found (AreResolvingFaults models) a b adds is in
    let before = subst IsEntered (sym same) (entered (none_before (AreResolvingFaults models) a b adds is)) in
    record {
      few = before.limits.few;
      named = subst AreWellNamed (sym same) named;
      short_names = before.limits.short_names;
      few_checks = before.limits.few_checks;
      keys = λ why fault. none why (inl fault);
      formulas = λ why fault. none why (inr (inl fault));
      made = before.made;
      chains = λ why fault. none why (inr (inr fault));
    }

-- models with fields that are made for them
pub entered : (models : List Gathered) (a b : Option SchemaFault) → (a ≡ None → AreFew models) → Adds (AreMadeFaults models models) a b → b ≡ None → IsEntered models
entered models a b limits adds is = record { limits = limits (none_before (AreMadeFaults models models) a b adds is); made = none_found (AreMadeFaults models models) a b adds is }

pub found_both : (models : List Gathered) (a b c : Option SchemaFault) → Adds (AreMadeFaults models models) a b → Adds (AreResolvingFaults models) b c → Adds (AreModelFaults models) a c
found_both models a b c made rest = Adds-both (AreMadeFaults models models) (AreResolvingFaults models) a b c made rest
