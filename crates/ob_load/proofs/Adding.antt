-- The numbers on which a module depends, added one by one.
use Rattle.std.proofs.Common.{◌≡◌, inl, inr, ℕ, ◌+◌, ◌<◌, ◌≤◌, false, List, [], ◌∷◌, ◌++◌, length, map, take, get_or, Contains, Some, sym, ap, subst, append_assoc, ◌∙◌}
use Rattle.std.specs.Prelude.{All, nat_eq, option_map, slice_get}
use Rattle.std.specs.List.{IsDistinct}
use Rattle.std.proofs.lemmas.Bool.{false≢true}
use Rattle.std.proofs.lemmas.List.{map-append, take_all, take_more}
use Rattle.std.proofs.lemmas.List.Elements.{All-push, All-weaker, Contains-append_left, Contains-push, Contains-push_cases}
use Rattle.std.proofs.lemmas.Option.{same_Some}
use Rattle.toml.specs.Data.{Members}
use Rattle.ob_module.specs.Meaning.{depends_of}
use Rattle.ob_module.specs.Modules.{AreApart, Module, has_module}
use Rattle.ob_load.specs.Rooms.{AddsOnce, ReachedBy}
use Rattle.ob_module.proofs.CallerLemmas.{Contains-at, element-at, has-at}
use Rattle.ob_load.proofs.Pigeon.{IsDistinct-push}

-- the first elements of a list, one more of them
pub take_one_more : {X : Type 0} (xs : List X) (i : ℕ) (x : X) → i < length xs → x ≡ get_or xs i x → take (i + 1) xs ≡ take i xs ++ x ∷ []
take_one_more xs i x low is = take_more xs i x low ∙ ap (λ z. take i xs ++ z ∷ []) (sym is)

pub map-take_more : {X Y : Type 0} (f : X → Y) (xs : List X) (i : ℕ) (x : X) → i < length xs → x ≡ get_or xs i x → map f (take (i + 1) xs) ≡ map f (take i xs) ++ f x ∷ []
map-take_more f xs i x low is = ap (map f) (take_one_more xs i x low is) ∙ map-append f (take i xs) (x ∷ [])

pub map-take_all : {X Y : Type 0} (f : X → Y) (xs : List X) (i : ℕ) → length xs ≤ i → map f (take i xs) ≡ map f xs
map-take_all f xs i high = ap (map f) (take_all i xs high)

module _ (modules : List Module) where
  -- the numbers of these names are added to those that are there, no number twice
  pub record Adds (names : List (List ℕ)) (old new : List ℕ) : Type 0 where
    pub more : List ℕ
    pub all : new ≡ old ++ more
    pub named : (o : Module) (other : ℕ) → slice_get modules other ≡ Some o → Contains names o.name → Contains new other
    pub each : All (λ other. (o : Module) × (slice_get modules other ≡ Some o) × Contains names o.name) more
    pub apart : IsDistinct nat_eq old → IsDistinct nat_eq new

  module _ (names : List (List ℕ)) (old new : List ℕ) (name : List ℕ) (are : Adds names old new) where
    kept : All (λ other. (o : Module) × (slice_get modules other ≡ Some o) × Contains (names ++ name ∷ []) o.name) are.more
    kept = All-weaker (λ other. (o : Module) × (slice_get modules other ≡ Some o) × Contains names o.name) (λ other. (o : Module) × (slice_get modules other ≡ Some o) × Contains (names ++ name ∷ []) o.name)
        (λ other (o, at, held). (o, at, Contains-append_left names (name ∷ []) o.name held)) are.more are.each

    -- a name of no module
    pub Adds-unknown : has_module modules name ≡ false → Adds (names ++ name ∷ []) old new
    Adds-unknown none = record {
      more = are.more;
      all = are.all;
      named = λ o other at held. elim (Contains-push_cases names name o.name held) as (λ _. Contains new other) [
        | inl before ↦ are.named o other at before
        | inr same ↦ absurd (false≢true (sym none ∙ has-at modules o name (Contains-at modules other o at) (sym same)))
      ];
      each = kept;
      apart = are.apart;
    }

    module _ (separate : AreApart modules) (number : ℕ) (p : Module) (at : slice_get modules number ≡ Some p) (named : p.name ≡ name) where
      -- one that is there already
      known : Contains new number → Adds (names ++ name ∷ []) old new
      known there = record {
        more = are.more;
        all = are.all;
        named = λ o other here held. elim (Contains-push_cases names name o.name held) as (λ _. Contains new other) [
          | inl before ↦ are.named o other here before
          | inr same ↦ subst (λ (n : ℕ). Contains new n) (separate number other p o at here (named ∙ same)) there
        ];
        each = kept;
        apart = are.apart;
      }

      -- one that isn't
      added : (Contains new number → ⊥) → Adds (names ++ name ∷ []) old (new ++ number ∷ [])
      added missing = record {
        more = are.more ++ number ∷ [];
        all = ap (λ (l : List ℕ). l ++ number ∷ []) are.all ∙ append_assoc old are.more (number ∷ []);
        named = λ o other here held. elim (Contains-push_cases names name o.name held) as (λ _. Contains (new ++ number ∷ []) other) [
          | inl before ↦ Contains-append_left new (number ∷ []) other (are.named o other here before)
          | inr same ↦ subst (λ (n : ℕ). Contains (new ++ number ∷ []) n) (separate number other p o at here (named ∙ same)) (Contains-push new number)
        ];
        each = All-push (λ other. (o : Module) × (slice_get modules other ≡ Some o) × Contains (names ++ name ∷ []) o.name) are.more number kept
            (p, at, subst (λ (l : List ℕ). Contains (names ++ name ∷ []) l) (sym named) (Contains-push names name));
        apart = λ old_apart. IsDistinct-push new number (are.apart old_apart) missing;
      }

      pub Adds-known : (next : List ℕ) → AddsOnce number new next → Adds (names ++ name ∷ []) old next
      Adds-known next (inl (there, same)) = subst (λ (l : List ℕ). Adds (names ++ name ∷ []) old l) (sym same) (known there)
      Adds-known next (inr (missing, same)) = subst (λ (l : List ℕ). Adds (names ++ name ∷ []) old l) (sym same) (added missing)

  -- all that a module depends on
  pub ReachedBy-from : (number : ℕ) (document : Members) (old new : List ℕ) → option_map (λ (m : Module). m.document) (slice_get modules number) ≡ Some document → number < length modules
      → Adds (depends_of document) old new → ReachedBy modules number old new
  ReachedBy-from number document old new at low are = (
    are.more,
    are.all,
    λ m o other here there held. are.named o other there (subst (λ (d : Members). Contains (depends_of d) o.name) (own m here) held),
    All-weaker (λ other. (o : Module) × (slice_get modules other ≡ Some o) × Contains (depends_of document) o.name)
        (λ other. (m o : Module) × (slice_get modules number ≡ Some m) × (slice_get modules other ≡ Some o) × Contains (depends_of m.document) o.name)
        (λ other (o, there, held). let m = element-at modules number low in (m.0, o, m.1, there, subst (λ (d : Members). Contains (depends_of d) o.name) (sym (own m.0 m.1)) held)) are.more are.each,
    are.apart,
  )
    where
      own : (m : Module) → slice_get modules number ≡ Some m → m.document ≡ document
      own m here = same_Some m.document document (ap (option_map (λ (m : Module). m.document)) (sym here) ∙ at)
