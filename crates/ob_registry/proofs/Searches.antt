-- A search from a node: what is marked is reached, and in the end all that is reached is marked.
use Rattle.std.proofs.Common.{◌≡◌, ◌⊎◌, ℕ, zero, suc, ◌<◌, Bool, true, false, List, [], ◌∷◌, ◌++◌, length, get_or, replicate, Some, inl, inr, refl, sym, ap, subst, ◌∙◌, true≢false, arith}
use Rattle.std.proofs.lemmas.List.{get_or-replicate, length-replicate}
use Rattle.std.proofs.lemmas.List.Elements.{Contains-append_left, Contains-push, Contains-push_cases}
use Rattle.std.proofs.lemmas.Option.{get_or_from_slice_get, slice_get_within}
use Rattle.std.specs.Prelude.{Contains, slice_get}
use Rattle.ob_schema.specs.Chains.{Reaches, ReachesOver}
use Rattle.ob_registry.proofs.Seen.{IsSeen, marked-at}

-- a mark that is set
abbrev pub IsMarked : List Bool → ℕ → Type 0
IsMarked seen b = slice_get seen b ≡ Some true

pub record IsSearch (Follows : ℕ → ℕ → Type 0) (size start : ℕ) (seen : List Bool) (waiting : List ℕ) : Type 0 where
  pub count : length seen ≡ size
  pub reached : (b : ℕ) → IsMarked seen b → Reaches Follows start b
  pub within : (b : ℕ) → Contains waiting b → b < size
  pub waits : (b : ℕ) → Contains waiting b → (b ≡ start) ⊎ IsMarked seen b
  pub closed : (b : ℕ) → (b ≡ start) ⊎ IsMarked seen b → Contains waiting b ⊎ ((d : ℕ) → Follows b d → IsMarked seen d)

none_marked : (n b : ℕ) → IsMarked (replicate n false) b → ⊥
none_marked n b on =
    let inside : b < n = let short = slice_get_within (replicate n false) b true on in omega (arith, short, length-replicate {A = Bool} n false) in
    true≢false (sym (get_or_from_slice_get (replicate n false) b true false on) ∙ get_or-replicate n b false false inside)

none_waits : (b : ℕ) → Contains [] b → ⊥
none_waits b among = let inside = among.1 in omega arith

module _ (Follows : ℕ → ℕ → Type 0) where
  ReachesOver-then : (n : ℕ) (a b c : ℕ) → ReachesOver Follows n a b → Follows b c → ReachesOver Follows (suc n) a c
  ReachesOver-then zero a b c first next = (b, first, next)
  ReachesOver-then (suc n) a b c (x, first, rest) next = (x, first, ReachesOver-then n x b c rest next)

module _ (Follows : ℕ → ℕ → Type 0) (size start : ℕ) where
  pub IsSearch-none : (seen : List Bool) (waiting : List ℕ) → start < size → seen ≡ replicate size false → waiting ≡ [] ++ start ∷ [] → IsSearch Follows size start seen waiting
  IsSearch-none seen waiting inside unmarked one = record {
    count = ap length unmarked ∙ length-replicate {A = Bool} size false;
    reached = λ b on. absurd (never b on);
    within = λ b among. let same = only b among in omega (arith, inside, same);
    waits = λ b among. inl (only b among);
    closed = λ b is. elim is as (λ _. Contains waiting b ⊎ ((d : ℕ) → Follows b d → IsMarked seen d)) [
      | inl same ↦ inl (subst (λ (l : List ℕ). Contains l b) (sym one) (subst (λ (n : ℕ). Contains ([] ++ start ∷ []) n) (sym same) (Contains-push [] start)))
      | inr on ↦ absurd (never b on)
    ];
  }
    where
      never : (b : ℕ) → IsMarked seen b → ⊥
      never b on = none_marked size b (subst (λ (l : List Bool). IsMarked l b) unmarked on)

      only : (b : ℕ) → Contains waiting b → b ≡ start
      only b among = elim (Contains-push_cases [] start b (subst (λ (l : List ℕ). Contains l b) one among)) as (λ _. b ≡ start) [ inl before ↦ absurd (none_waits b before) | inr same ↦ sym same ]

  module _ (seen : List Bool) (rest : List ℕ) (node : ℕ) (new : List Bool) (next : List ℕ) (was : IsSearch Follows size start seen (rest ++ node ∷ [])) (is : IsSeen (Follows node) seen rest new next)
      (bound : (b : ℕ) → Follows node b → b < size) where
    reached_new : (b : ℕ) → IsMarked new b → Reaches Follows start b
    reached_new b on = elim ((is.marked b).0 on) as (λ _. Reaches Follows start b) [
      | inl old ↦ was.reached b old
      | inr follows ↦ (elim (was.waits node (Contains-push rest node)) as (λ _. Reaches Follows start b) [
        | inl same ↦ (0, subst (λ (n : ℕ). Follows n b) same follows)
        | inr seen_node ↦ (let way = was.reached node seen_node in (suc way.0, ReachesOver-then Follows way.0 start node b way.1 follows))
      ])
    ]

    within_new : (b : ℕ) → Contains next b → b < size
    within_new b among = elim ((is.waits b).0 among) as (λ _. b < size) [ inl old ↦ was.within b (Contains-append_left rest (node ∷ []) b old) | inr added ↦ bound b added.1 ]

    waits_new : (b : ℕ) → Contains next b → (b ≡ start) ⊎ IsMarked new b
    waits_new b among = elim ((is.waits b).0 among) as (λ _. (b ≡ start) ⊎ IsMarked new b) [
      | inl old ↦ (elim (was.waits b (Contains-append_left rest (node ∷ []) b old)) as (λ _. (b ≡ start) ⊎ IsMarked new b) [ inl same ↦ inl same | inr on ↦ inr ((is.marked b).1 (inl on)) ])
      | inr added ↦ inr ((is.marked b).1 (inr added.1))
    ]

    closed_old : (b : ℕ) → (b ≡ start) ⊎ IsMarked seen b → Contains next b ⊎ ((d : ℕ) → Follows b d → IsMarked new d)
    closed_old b why = elim (was.closed b why) as (λ _. Contains next b ⊎ ((d : ℕ) → Follows b d → IsMarked new d)) [
      | inl among ↦ (elim (Contains-push_cases rest node b among) as (λ _. Contains next b ⊎ ((d : ℕ) → Follows b d → IsMarked new d)) [
        | inl before ↦ inl ((is.waits b).1 (inl before))
        | inr same ↦ inr (λ d follows. (is.marked d).1 (inr (subst (λ (n : ℕ). Follows n d) (sym same) follows)))
      ])
      | inr all ↦ inr (λ d follows. (is.marked d).1 (inl (all d follows)))
    ]

    closed_by : (b : ℕ) (mark : Bool) → get_or seen b false ≡ mark → Follows node b → Contains next b ⊎ ((d : ℕ) → Follows b d → IsMarked new d)
    closed_by b true on follows = closed_old b (inr (marked-at seen b true (let inside = bound b follows in omega (arith, inside, was.count)) on))
    closed_by b false off follows = inl ((is.waits b).1 (inr (marked-at seen b false (let inside = bound b follows in omega (arith, inside, was.count)) off, follows)))

    closed_new : (b : ℕ) → (b ≡ start) ⊎ IsMarked new b → Contains next b ⊎ ((d : ℕ) → Follows b d → IsMarked new d)
    closed_new b (inl same) = closed_old b (inl same)
    closed_new b (inr on) = elim ((is.marked b).0 on) as (λ _. Contains next b ⊎ ((d : ℕ) → Follows b d → IsMarked new d)) [
      | inl old ↦ closed_old b (inr old)
      | inr follows ↦ closed_by b (get_or seen b false) refl follows
    ]

    -- one of those that wait, and what it adds
    pub IsSearch-more : IsSearch Follows size start new next
    IsSearch-more = record { count = is.count ∙ was.count; reached = reached_new; within = within_new; waits = waits_new; closed = closed_new }

  -- when none waits
  module _ (seen : List Bool) (done : IsSearch Follows size start seen []) where
    marks_all : (b : ℕ) → (b ≡ start) ⊎ IsMarked seen b → (d : ℕ) → Follows b d → IsMarked seen d
    marks_all b why d follows = elim (done.closed b why) as (λ _. IsMarked seen d) [ inl among ↦ absurd (none_waits b among) | inr all ↦ all d follows ]

    marks_over : (n a b : ℕ) → (a ≡ start) ⊎ IsMarked seen a → ReachesOver Follows n a b → IsMarked seen b
    marks_over zero a b why follows = marks_all a why b follows
    marks_over (suc n) a b why (c, follows, rest) = marks_over n c b (inr (marks_all a why c follows)) rest

    pub IsMarked-reached : (b : ℕ) → Reaches Follows start b → IsMarked seen b
    IsMarked-reached b way = marks_over way.0 start b (inl refl) way.1
