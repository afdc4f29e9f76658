-- The order in which modules are taken, and that no chain of dependencies is long.
use Rattle.std.proofs.Common.{◌≡◌, ℕ, zero, suc, ◌≤◌, Bool, true, false, List, [], ◌∷◌, ◌++◌, length, map, Contains, Some, refl, ap, subst, ◌∙◌, arith}
use Rattle.std.specs.Prelude.{All, slice_get}
use Rattle.std.proofs.lemmas.List.Elements.{All-contains}
use Rattle.ob_module.specs.Meaning.{depends_of}
use Rattle.ob_schema.specs.Chains.{HasChain, ReachesOver}
use Rattle.ob_load.specs.Dependencies.{DependsOn, IsCyclic, Takes, all_taken, passes, takes}
use Rattle.ob_module.specs.Modules.{AreApart, Module, has_module, numbered}
use Rattle.ob_module.proofs.CallerLemmas.{has-at, has-from, numbered-has, numbered-number}
use Rattle.ob_load.proofs.Pigeon.{no_long_chain}

module _ (modules : List Module) where
  -- names one after another
  pub Takes-append : (taken before all : List Module) (first then : List (List ℕ)) → Takes modules taken first before → Takes modules before then all → Takes modules taken (first ++ then) all
  Takes-append taken before all first then (all_taken t) rest = rest
  Takes-append taken before all first then (passes t name names a has further) rest = passes t name (names ++ then) all has (Takes-append t before all names then further rest)
  Takes-append taken before all first then (takes t b name names m a new among named depends further) rest =
      takes t b name (names ++ then) m all new among named depends (Takes-append (b ++ m ∷ []) before all names then further rest)

  -- a module that was taken
  pub Takes-taken : (taken : List Module) (name : List ℕ) → has_module taken name ≡ true → Takes modules taken (name ∷ []) taken
  Takes-taken taken name has = passes taken name [] taken has (all_taken taken)

  -- a module behind those on which it depends
  pub Takes-one : (taken before : List Module) (name : List ℕ) (m : Module) → has_module taken name ≡ false → Contains modules m → m.name ≡ name → Takes modules taken (depends_of m.document) before
      → Takes modules taken (name ∷ []) (before ++ m ∷ [])
  Takes-one taken before name m new among named depends = takes taken before name [] m (before ++ m ∷ []) new among named depends (all_taken (before ++ m ∷ []))

  module _ (apart : AreApart modules)
      (numbers : List ℕ) (taken : List Module) (all : numbered modules numbers taken) (number : ℕ) (m : Module) (at : slice_get modules number ≡ Some m) where
    -- a number is among those that were taken where its module is
    pub taken-has : Contains numbers number → has_module taken m.name ≡ true
    taken-has held = has-at taken m m.name (numbered-has modules numbers taken number m all held at) refl

    pub taken-new : (Contains numbers number → ⊥) → has_module taken m.name ≡ false
    taken-new new = by (has_module taken m.name) refl
      where
        by : (b : Bool) → has_module taken m.name ≡ b → has_module taken m.name ≡ false
        by true e =
            let own = has-from taken m.name e in
            let there = numbered-number modules numbers taken own.0 all own.1 in
            absurd (new (subst (λ (n : ℕ). Contains numbers n) (apart there.0 number own.0 m there.2 at own.2) there.1))
        by false e = e

  -- who depends on another is a module
  pub source-of : (k : ℕ) (a c : List ℕ) → ReachesOver (DependsOn modules) k a c → has_module modules a ≡ true
  source-of zero a c follows = has-at modules follows.0 a follows.1 follows.2
  source-of (suc k) a c (b, follows, reach) = has-at modules follows.0 a follows.1 follows.2

  names-has : (l : List Module) (name : List ℕ) → has_module l name ≡ true → Contains (map (λ (m : Module). m.name) l) name
  names-has l name has = let own = has-from l name has in of l own.0 own.1 own.2
    where
      of : (l : List Module) (m : Module) → Contains l m → m.name ≡ name → Contains (map (λ (m : Module). m.name) l) name
      of [] m (k, lt, is) named = absurd (omega (arith, lt))
      of (x ∷ l) m (zero, lt, is) named = (0, omega arith, ap (λ (y : Module). y.name) is ∙ named)
      of (x ∷ l) m (suc k, lt, is) named = let held = of l m (k, omega (arith, lt), is) named in (suc held.0, omega (arith, held.1), held.2)

  names-long : (l : List Module) → length (map (λ (m : Module). m.name) l) ≡ length l
  names-long [] = refl
  names-long (x ∷ l) = ap suc (names-long l)

  module _ (depends : All (λ m. All (λ name. has_module modules name ≡ true) (depends_of m.document)) modules) where
    -- what a module depends on is a module
    pub target-of : (a b : List ℕ) → DependsOn modules a b → has_module modules b ≡ true
    target-of a b (m, among, named, held) =
        All-contains (λ name. has_module modules name ≡ true) (depends_of m.document) b (All-contains (λ (m : Module). All (λ name. has_module modules name ≡ true) (depends_of m.document)) modules m depends among) held

    reached-module : (k : ℕ) (a b : List ℕ) → ReachesOver (DependsOn modules) k a b → has_module modules b ≡ true
    reached-module zero a b follows = target-of a b follows
    reached-module (suc k) a b (c, follows, reach) = reached-module k c b reach

    -- without circles no chain is as long as there are modules
    pub no_chain : ((name : List ℕ) → IsCyclic modules name → ⊥) → (limit : ℕ) → length modules ≤ limit → (name : List ℕ) → has_module modules name ≡ true → HasChain (DependsOn modules) limit name → ⊥
    no_chain acyclic limit few name there chain =
        let long = names-long modules in
        no_long_chain (DependsOn modules) acyclic limit (map (λ (m : Module). m.name) modules) name (omega (arith, long, few)) (names-has modules name there)
        (λ b (k, reach). names-has modules b (reached-module k name b reach)) chain
