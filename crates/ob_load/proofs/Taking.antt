-- Modules taken name by name.
use Rattle.std.proofs.Common.{◌≡◌, ℕ, zero, suc, ◌-◌, ◌<◌, ◌≤◌, true, List, [], ◌∷◌, ◌++◌, length, map, get_or, Contains, Some, sym, ap, subst, ◌∙◌, arith}
use Rattle.std.specs.Prelude.{All, option_map, slice_get}
use Rattle.std.proofs.lemmas.List.Elements.{All-cons, All-contains, All-nil}
use Rattle.std.proofs.lemmas.Option.{same_Some}
use Rattle.toml.specs.Data.{Members}
use Rattle.ob_schema.specs.Chains.{HasChain}
use Rattle.ob_load.specs.Dependencies.{DependsOn, IsCyclic, all_taken}
use Rattle.ob_module.specs.Meaning.{depends_of}
use Rattle.ob_module.specs.Modules.{AreApart, Module, has_module}
use Rattle.ob_load.specs.Rooms.{AreReadWhole, TakesOn}
use Rattle.ob_module.proofs.CallerLemmas.{Contains-at, numbered-push}
use Rattle.ob_load.proofs.Orders.{Takes-append, Takes-one, Takes-taken, no_chain, taken-has, taken-new}

-- an element's image is among the images
pub Contains-map : {X Y : Type 0} (f : X → Y) (xs : List X) (i : ℕ) (x : X) → i < length xs → x ≡ get_or xs i x → Contains (map f xs) (f x)
Contains-map f [] i x low is = absurd (omega (arith, low))
Contains-map f (y ∷ xs) zero x low is = (0, omega arith, ap f (sym is))
Contains-map f (y ∷ xs) (suc i) x low is = let held = Contains-map f xs i x (omega (arith, low)) is in (suc held.0, omega (arith, held.1), held.2)

module _ (modules : List Module) where
  pub TakesOn-none : (numbers : List ℕ) → TakesOn modules numbers [] numbers
  TakesOn-none numbers = λ before all. (before, all, all_taken before)

  pub TakesOn-append : (old between new : List ℕ) (first then : List (List ℕ)) → TakesOn modules old first between → TakesOn modules between then new → TakesOn modules old (first ++ then) new
  TakesOn-append old between new first then f g = λ before all.
      let a = f before all in
      let b = g a.0 a.1 in
      (b.0, b.1, Takes-append modules before a.0 b.0 first then a.2 b.2)

  module _ (apart : AreApart modules) (name : List ℕ) (number : ℕ) (m : Module) (at : slice_get modules number ≡ Some m) (named : m.name ≡ name) where
    -- one that was taken
    pub TakesOn-known : (old : List ℕ) → Contains old number → TakesOn modules old (name ∷ []) old
    TakesOn-known old held = λ before all. (before, all, Takes-taken modules before name (subst (λ (l : List ℕ). has_module before l ≡ true) named (taken-has modules apart old before all number m at held)))

    -- one that wasn't, behind those on which it depends
    pub TakesOn-new : (old between : List ℕ) → (Contains old number → ⊥) → TakesOn modules old (depends_of m.document) between → TakesOn modules old (name ∷ []) (between ++ number ∷ [])
    TakesOn-new old between new depends = λ before all.
        let d = depends before all in
        let missing = ap (has_module before) (sym named) ∙ taken-new modules apart old before all number m at new in
        (d.0 ++ m ∷ [], numbered-push modules between d.0 number m d.1 at, Takes-one modules before d.0 name m missing (Contains-at modules number m at) named d.2)

  -- a chain of none is always there
  pub left-some : (left : ℕ) (name : List ℕ) → (HasChain (DependsOn modules) left name → ⊥) → 0 < left
  left-some zero name short = absurd (short tt)
  left-some (suc left) name short = omega arith

  -- behind what a module depends on chains are shorter
  pub chain-shorter : (left : ℕ) (name other : List ℕ) → (HasChain (DependsOn modules) left name → ⊥) → DependsOn modules name other → HasChain (DependsOn modules) (left - 1) other → ⊥
  chain-shorter zero name other short depends chain = short tt
  chain-shorter (suc left) name other short depends chain =
      let less : suc left - 1 ≡ left = omega arith in
      short (other, depends, subst (λ (n : ℕ). HasChain (DependsOn modules) n other) less chain)

  module _ (names : List (List ℕ)) (whole : AreReadWhole modules names) where
    -- one of the names alone
    pub whole-at : (name : List ℕ) → has_module modules name ≡ true → AreReadWhole modules (name ∷ [])
    whole-at name has = record {
      named = All-cons (λ n. has_module modules n ≡ true) name [] has (All-nil (λ n. has_module modules n ≡ true));
      depends = whole.depends;
    }

    pub whole-named : (name : List ℕ) → Contains names name → AreReadWhole modules (name ∷ [])
    whole-named name held = whole-at name (All-contains (λ n. has_module modules n ≡ true) names name whole.named held)

    -- no chain is as long as there are modules
    pub whole-short : ((name : List ℕ) → IsCyclic modules name → ⊥) → (limit : ℕ) → length modules ≤ limit → (name : List ℕ) → Contains names name → HasChain (DependsOn modules) limit name → ⊥
    whole-short acyclic limit few name held = no_chain modules whole.depends acyclic limit few name (All-contains (λ n. has_module modules n ≡ true) names name whole.named held)

    -- what a module depends on
    pub whole-depends : (m : Module) (other : List ℕ) → Contains modules m → Contains (depends_of m.document) other → AreReadWhole modules (other ∷ [])
    whole-depends m other among held = whole-at other
        (All-contains (λ n. has_module modules n ≡ true) (depends_of m.document) other (All-contains (λ (o : Module). All (λ n. has_module modules n ≡ true) (depends_of o.document)) modules m whole.depends among) held)

  -- the document of a number is that of its module
  pub document-at : (number : ℕ) (m : Module) (document : Members) → slice_get modules number ≡ Some m → option_map (λ (o : Module). o.document) (slice_get modules number) ≡ Some document → document ≡ m.document
  document-at number m document at is = same_Some document m.document (sym is ∙ ap (option_map (λ (o : Module). o.document)) at)
