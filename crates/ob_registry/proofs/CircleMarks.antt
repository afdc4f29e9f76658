-- Marks of nodes, one after another, and those of the nodes that are reached from themselves.
use Rattle.std.proofs.Common.{◌≡◌, ℕ, zero, suc, ◌+◌, ◌<◌, Bool, true, List, [], ◌∷◌, ◌++◌, length, length-append, Some, inl, inr, sym, ap, subst, ◌∙◌, arith, Vec}
use Rattle.std.proofs.lemmas.Bool.{cases_lt}
use Rattle.std.proofs.lemmas.Option.{same_Some, slice_get_within}
use Rattle.std.specs.Prelude.{◌↔◌, Contains, IsTrue, slice_get}
use Rattle.std.specs.declared.alloc.Global.{Global}
use Rattle.ob_schema.specs.Chains.{Reaches, ReachesOver}
use Rattle.ob_registry.specs.Graphs.{AreOnCycles, NodeReads}
use Rattle.ob_registry.proofs.Readings.{some_and}
use Rattle.ob_registry.proofs.Steps.{slice_get-joined, slice_get-left, slice_get-right}

-- the first so many nodes are marked where they are such ones
pub record AreMarked (Is : ℕ → Type 0) (n : ℕ) (marks : List Bool) : Type 0 where
  pub count : length marks ≡ n
  pub each : (a : ℕ) → a < n → (slice_get marks a ≡ Some true) ↔ Is a

-- none before the first
pub AreMarked-none : (Is : ℕ → Type 0) (marks : List Bool) → marks ≡ [] → AreMarked Is 0 marks
AreMarked-none Is marks none = record { count = ap length none; each = λ a before. absurd (omega arith) }

-- one node more
pub AreMarked-more : (Is : ℕ → Type 0) (n : ℕ) (marks : List Bool) (mark : Bool) → AreMarked Is n marks → IsTrue mark ↔ Is n → AreMarked Is (n + 1) (marks ++ mark ∷ [])
AreMarked-more Is n marks mark are one = record {
  count = length-append marks (mark ∷ []) ∙ ap (λ (k : ℕ). k + 1) are.count;
  each = λ a before. elim (cases_lt a n) as (λ _. (slice_get (marks ++ mark ∷ []) a ≡ Some true) ↔ Is a) [
    | inl lower ↦ (λ on. (are.each a lower).0 (shorter a lower on), λ is. slice_get-left marks (mark ∷ []) a true ((are.each a lower).1 is))
    | inr last ↦ (let same : n ≡ a = omega arith in subst (λ (k : ℕ). (slice_get (marks ++ mark ∷ []) k ≡ Some true) ↔ Is k) same (λ on. one.0 (same_Some mark true (sym here ∙ on)), λ is. here ∙ ap Some (one.1 is)))
  ];
}
  where
    here : slice_get (marks ++ mark ∷ []) n ≡ Some mark
    here = slice_get-right marks (mark ∷ []) 0 n (omega (arith, are.count))

    shorter : (a : ℕ) → a < n → slice_get (marks ++ mark ∷ []) a ≡ Some true → slice_get marks a ≡ Some true
    shorter a lower on = elim (slice_get-joined marks (mark ∷ []) a true on) as (λ _. slice_get marks a ≡ Some true) [
      | inl left ↦ left.1
      | inr right ↦ absurd (omega (arith, lower, right.1, are.count))
    ]

module _ (reads : List (Vec ℕ Global)) where
  -- a node from which another is reached is there
  reader : (n a b : ℕ) → ReachesOver (NodeReads reads) n a b → a < length reads
  reader zero a b is = let row = some_and (slice_get reads a) (λ v. Contains v.items b) is in slice_get_within reads a row.0 row.1
  reader (suc n) a b (c, is, rest) = let row = some_and (slice_get reads a) (λ v. Contains v.items c) is in slice_get_within reads a row.0 row.1

  -- all nodes
  pub AreOnCycles-marked : (n : ℕ) (marks : List Bool) → n ≡ length reads → AreMarked (λ a. Reaches (NodeReads reads) a a) n marks → AreOnCycles reads marks
  AreOnCycles-marked n marks all are = record {
    count = are.count ∙ all;
    each = λ a. (
      λ on. (are.each a (omega (arith, slice_get_within marks a true on, are.count))).0 on,
      λ way. (are.each a (omega (arith, reader way.0 a a way.1, all))).1 way,
    );
  }
