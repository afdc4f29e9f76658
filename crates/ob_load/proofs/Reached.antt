-- Which modules are reached from one.
use Rattle.std.proofs.Common.{◌≡◌, inl, inr, ℕ, zero, suc, ◌+◌, ◌<◌, ◌≤◌, Bool, true, List, [], ◌∷◌, ◌++◌, length, Contains, Some, refl, sym, ap, subst, ◌∙◌, arith}
use Rattle.std.specs.Prelude.{◌↔◌, All, IsTrue, nat_eq, slice_get}
use Rattle.std.specs.List.{IsAnyAnswer, IsDistinct}
use Rattle.std.proofs.lemmas.Bool.{cases_eq}
use Rattle.std.proofs.lemmas.Bool.Decides.{Decides-eqb}
use Rattle.std.proofs.lemmas.List.Elements.{All-append, All-contains, All-weaker, Contains-append_left, Decides-contains, contains_decides}
use Rattle.std.proofs.lemmas.Option.{same_Some, slice_get_within}
use Rattle.ob_module.specs.Meaning.{depends_of}
use Rattle.ob_schema.specs.Chains.{Reaches}
use Rattle.ob_load.specs.Dependencies.{DependsOn, IsCyclic}
use Rattle.ob_module.specs.Modules.{AreApart, Module, has_module}
use Rattle.ob_load.specs.Rooms.{ReachedBy}
use Rattle.ob_module.proofs.CallerLemmas.{Contains-at, has-at, has-from, number-of}
use Rattle.ob_load.proofs.Orders.{source-of}
use Rattle.ob_load.proofs.Pigeon.{Reaches-more, few_below, stays}

module _ (modules : List Module) where
  -- a module depends on another, by their numbers
  abbrev pub Leads : ℕ → ℕ → Type 0
  Leads a b = (m o : Module) × (slice_get modules a ≡ Some m) × (slice_get modules b ≡ Some o) × Contains (depends_of m.document) o.name

  -- the numbers that are reached from a module, of which the first so many and the module itself were looked at
  pub record AreReached (number : ℕ) (reached : List ℕ) (looked : ℕ) : Type 0 where
    pub each : All (λ b. (m o : Module) × (slice_get modules number ≡ Some m) × (slice_get modules b ≡ Some o) × Reaches (DependsOn modules) m.name o.name) reached
    pub apart : IsDistinct nat_eq reached
    pub first : (b : ℕ) → Leads number b → Contains reached b
    pub further : (k a b : ℕ) → k < looked → slice_get reached k ≡ Some a → Leads a b → Contains reached b

  leads-on : (a b : ℕ) (m o : Module) → slice_get modules a ≡ Some m → slice_get modules b ≡ Some o → Contains (depends_of m.document) o.name → DependsOn modules m.name o.name
  leads-on a b m o at there held = (m, Contains-at modules a m at, refl, held)

  -- one of those that are reached
  abbrev pub Is : ℕ → ℕ → Type 0
  Is number b = (m o : Module) × (slice_get modules number ≡ Some m) × (slice_get modules b ≡ Some o) × Reaches (DependsOn modules) m.name o.name

  none_apart : IsDistinct nat_eq []
  unfolding IsDistinct
  none_apart = tt

  -- at first
  pub AreReached-first : (number : ℕ) (reached : List ℕ) → ReachedBy modules number [] reached → AreReached number reached 0
  AreReached-first number reached (more, is, all, each, apart) = record {
    each = subst (λ (l : List ℕ). All (Is number) l) (sym is) (All-weaker (Leads number) (Is number) (λ b (m, o, at, there, held). (m, o, at, there, (0, leads-on number b m o at there held))) more each);
    apart = apart none_apart;
    first = λ b (m, o, at, there, held). all m o b at there held;
    further = λ k a b low at lead. absurd (omega (arith, low));
  }

  slice_get-left : (xs ys : List ℕ) (k a : ℕ) → k < length xs → slice_get (xs ++ ys) k ≡ Some a → slice_get xs k ≡ Some a
  slice_get-left [] ys k a low at = absurd (omega (arith, low))
  slice_get-left (x ∷ xs) ys zero a low at = at
  slice_get-left (x ∷ xs) ys (suc k) a low at = slice_get-left xs ys k a (omega (arith, low)) at

  -- after a look at one more
  module _ (number : ℕ) (old new : List ℕ) (looked next : ℕ) (are : AreReached number old looked) (at : slice_get old looked ≡ Some next) (by : ReachedBy modules next old new) where
    from_next : (b : ℕ) → Leads next b → Is number b
    from_next b (m, o, here, there, held) =
        let own = All-contains (Is number) old next are.each (Contains-at old looked next at) in
        let same : own.1 ≡ m = same_Some own.1 m (sym own.3 ∙ here) in
        let reach : Reaches (DependsOn modules) own.0.name m.name = subst (λ (x : Module). Reaches (DependsOn modules) own.0.name x.name) same own.4 in
        (own.0, o, own.2, there, (suc reach.0, Reaches-more (DependsOn modules) reach.0 own.0.name m.name o.name reach.1 (leads-on next b m o here there held)))

    kept : (b : ℕ) → Contains old b → Contains new b
    kept b held = subst (λ (l : List ℕ). Contains l b) (sym by.1) (Contains-append_left old by.0 b held)

    leads_further : (k a b : ℕ) → k < looked + 1 → slice_get new k ≡ Some a → Leads a b → Contains new b
    leads_further k a b low is lead = elim (cases_eq k looked) as (λ _. Contains new b) [
      | inl same ↦
          let own : slice_get old k ≡ Some a = within k a (omega (arith, same, slice_get_within old looked next at)) is in
          let e : a ≡ next = same_Some a next (sym own ∙ ap (slice_get old) same ∙ at) in
          let lead' : Leads next b = subst (λ (x : ℕ). Leads x b) e lead in
          by.2 lead'.0 lead'.1 b lead'.2 lead'.3 lead'.4
      | inr other ↦ kept b (are.further k a b (omega (arith, low, other)) (within k a (omega (arith, low, other, slice_get_within old looked next at)) is) lead)
    ]
      where
        within : (k a : ℕ) → k < length old → slice_get new k ≡ Some a → slice_get old k ≡ Some a
        within k a low is = slice_get-left old by.0 k a low (ap (λ (l : List ℕ). slice_get l k) (sym by.1) ∙ is)

    pub AreReached-more : AreReached number new (looked + 1)
    AreReached-more = record {
      each = subst (λ (l : List ℕ). All (Is number) l) (sym by.1) (All-append (Is number) old by.0 are.each (All-weaker (Leads next) (Is number) from_next by.0 by.3));
      apart = by.4 are.apart;
      first = λ b lead. kept b (are.first b lead);
      further = leads_further;
    }

  -- they are no more than there are modules
  pub reached-few : (number : ℕ) (reached : List ℕ) (looked : ℕ) → AreReached number reached looked → length reached ≤ length modules
  reached-few number reached looked are = few_below reached (length modules) are.apart (λ b held. let own = All-contains (Is number) reached b are.each held in slice_get_within modules b own.1 own.3)

  -- where all were looked at, a module is among them where it is in a circle
  module _ (apart : AreApart modules) (number : ℕ) (reached : List ℕ) (looked : ℕ) (are : AreReached number reached looked) (all : length reached ≤ looked) (m : Module) (at : slice_get modules number ≡ Some m) where
    In : List ℕ → Type 0
    In name = (n : ℕ) × (o : Module) × Contains reached n × (slice_get modules n ≡ Some o) × (o.name ≡ name)

    leads_to : (n : ℕ) (o : Module) (name : List ℕ) → slice_get modules n ≡ Some o → DependsOn modules o.name name → has_module modules name ≡ true → (j : ℕ) × (p : Module) × Leads n j × (slice_get modules j ≡ Some p) × (p.name ≡ name)
    leads_to n o name here (source, among, named, held) has =
        let target = has-from modules name has in
        let j = number-of modules target.0 target.1 in
        let s = number-of modules source among in
        let same : s.0 ≡ n = apart s.0 n source o s.1 here named in
        let is : source ≡ o = same_Some source o (sym s.1 ∙ ap (slice_get modules) same ∙ here) in
        (j.0, target.0, (o, target.0, here, j.1, subst (λ (l : List ℕ). Contains (depends_of o.document) l) (sym target.2) (subst (λ (x : Module). Contains (depends_of x.document) name) is held)), j.1, target.2)

    In-first : (name : List ℕ) → DependsOn modules m.name name → has_module modules name ≡ true → In name
    unfolding In
    In-first name depends has = let t = leads_to number m name at depends has in (t.0, t.1, are.first t.0 t.2, t.3, t.4)

    In-step : (a b : List ℕ) → In a → DependsOn modules a b → has_module modules b ≡ true → In b
    unfolding In
    In-step a b (n, o, held, here, named) depends has =
        let t = leads_to n o b here (subst (λ (l : List ℕ). DependsOn modules l b) (sym named) depends) has in
        let place = number-of reached n held in
        (t.0, t.1, are.further place.0 n t.0 (let low = slice_get_within reached place.0 n place.1 in omega (arith, low, all)) place.1 t.2, t.3, t.4)

    found-of : In m.name → Contains reached number
    unfolding In
    found-of (n, o, held, here, named) = subst (λ (k : ℕ). Contains reached k) (apart n number o m here at named) held

    pub reached-cyclic : Contains reached number ↔ IsCyclic modules m.name
    reached-cyclic = (
      λ held. let own = All-contains (Is number) reached number are.each held in
          let first : own.0 ≡ m = same_Some own.0 m (sym own.2 ∙ at) in
          let last : own.1 ≡ m = same_Some own.1 m (sym own.3 ∙ at) in
          subst (λ (x : Module). Reaches (DependsOn modules) m.name x.name) last (subst (λ (x : Module). Reaches (DependsOn modules) x.name own.1.name) first own.4),
      λ (k, reach). found-of (stays (DependsOn modules) In (λ name. has_module modules name ≡ true) (source-of modules) In-step k m.name m.name In-first (has-at modules m m.name (Contains-at modules number m at) refl) reach),
    )

    -- so the test tells
    pub reached-test : (result : Bool) → IsAnyAnswer (λ y b. nat_eq y number ≡ b) reached result → IsTrue result ↔ IsCyclic modules m.name
    reached-test result answer =
        let test = Decides-contains reached number result (contains_decides nat_eq Decides-eqb reached number result answer) in
        (λ on. reached-cyclic.0 (test.0 on), λ cyclic. test.1 (reached-cyclic.1 cyclic))
