-- Which modules depend on which, and the order in which modules are taken.
use Rattle.std.specs.Prelude.{◌≡◌, ℕ, List, [], ◌∷◌, ◌++◌, All, Contains, true, false}
use Rattle.ob_schema.specs.Chains.{Reaches}
use Rattle.ob_module.specs.Meaning.{depends_of}
use Rattle.ob_module.specs.Modules.{Module, has_module}

module _ (modules : List Module) where
  -- one of these modules depends on a module of this name
  abbrev pub DependsOn : List ℕ → List ℕ → Type 0
  DependsOn name other = (m : Module) × Contains modules m × (m.name ≡ name) × Contains (depends_of m.document) other

  -- directly or through others it depends on itself
  abbrev pub IsCyclic : List ℕ → Type 0
  IsCyclic name = Reaches DependsOn name name

  -- the first that does
  pub record IsFirstCyclic (name : List ℕ) : Type 0 where
    pub before : List Module
    pub first : Module
    pub after : List Module
    pub all : modules ≡ before ++ first ∷ after
    pub named : first.name ≡ name
    pub none_before : All (λ m. IsCyclic m.name → ⊥) before
    pub there : IsCyclic name

  -- after those that were taken the names lead to all these: each module after those on which it depends, and once
  pub data Takes : List Module → List (List ℕ) → List Module → Type 0 where
    all_taken : (taken : List Module) → Takes taken [] taken
    passes : (taken : List Module) (name : List ℕ) (names : List (List ℕ)) (all : List Module)
        → has_module taken name ≡ true → Takes taken names all → Takes taken (name ∷ names) all
    takes : (taken before : List Module) (name : List ℕ) (names : List (List ℕ)) (m : Module) (all : List Module)
        → has_module taken name ≡ false → Contains modules m → m.name ≡ name → Takes taken (depends_of m.document) before
        → Takes (before ++ m ∷ []) names all → Takes taken (name ∷ names) all
