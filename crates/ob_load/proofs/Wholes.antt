-- Names that were read or are to come, step by step.
use Rattle.std.proofs.Common.{◌≡◌, ◌⊎◌, inl, inr, ℕ, zero, suc, true, List, [], ◌∷◌, ◌++◌, Contains, Option, None, Some, ap, subst, ◌∙◌, arith}
use Rattle.std.specs.Prelude.{All}
use Rattle.std.proofs.lemmas.List.Elements.{All-contains, All-contains_itself, All-nil, All-push, All-weaker, Contains-append_cases, Contains-append_left, Contains-append_right}
use Rattle.ob_module.specs.Meaning.{depends_of}
use Rattle.ob_module.specs.Modules.{Module, has_module}
use Rattle.ob_load.specs.Rooms.{AreHeld, AreReadWhole, IsHeld, Passes, taken_before}
use Rattle.ob_module.proofs.CallerLemmas.{has-more, has-pushed}

-- what holds of a name wherever it is held
held-weaker : (modules now : List Module) (coming left names : List (List ℕ)) → ((name : List ℕ) → IsHeld modules coming name → IsHeld now left name) → AreHeld modules coming names
    → All (IsHeld now left) names × All (λ m. All (IsHeld now left) (depends_of m.document)) modules
held-weaker modules now coming left names to are = (
  All-weaker (IsHeld modules coming) (IsHeld now left) to names are.named,
  All-weaker (λ (m : Module). All (IsHeld modules coming) (depends_of m.document)) (λ (m : Module). All (IsHeld now left) (depends_of m.document))
      (λ m all. All-weaker (IsHeld modules coming) (IsHeld now left) to (depends_of m.document) all) modules are.depends,
)

-- at first
pub AreHeld-first : (names : List (List ℕ)) → AreHeld [] names names
AreHeld-first names = record {
  named = All-weaker (Contains names) (IsHeld [] names) (λ name held. inr held) names (All-contains_itself names);
  depends = All-nil (λ (m : Module). All (IsHeld [] names) (depends_of m.document));
}

module _ (modules : List Module) (coming names : List (List ℕ)) (are : AreHeld modules coming names) where
  -- over those that were read
  pub AreHeld-passed : (next : Option (List ℕ)) (rest : List (List ℕ)) → Passes modules coming next rest → AreHeld modules (taken_before next rest) names
  AreHeld-passed next rest (passed, read, is, end) =
      let left = taken_before next rest in
      let in_parts : (name : List ℕ) → Contains passed name ⊎ Contains left name → IsHeld modules left name = λ name held. elim held as (λ _. IsHeld modules left name) [
        | inl before ↦ inl (All-contains (λ n. has_module modules n ≡ true) passed name read before)
        | inr behind ↦ inr behind
      ] in
      let to : (name : List ℕ) → IsHeld modules coming name → IsHeld modules left name = λ name held. elim held as (λ _. IsHeld modules left name) [
        | inl has ↦ inl has
        | inr there ↦ in_parts name (Contains-append_cases passed left name (subst (λ (l : List (List ℕ)). Contains l name) is there))
      ] in
      let both = held-weaker modules modules coming left names to are in
      record { named = both.0; depends = both.1 }

  -- with the first one read
  pub AreHeld-read : (rest : List (List ℕ)) (m : Module) → coming ≡ m.name ∷ rest → AreHeld (modules ++ m ∷ []) (depends_of m.document ++ rest) names
  AreHeld-read rest m is =
      let now = modules ++ m ∷ [] in
      let left = depends_of m.document ++ rest in
      let both = held-weaker modules now coming left names to are in
      record {
        named = both.0;
        depends = All-push (λ (o : Module). All (IsHeld now left) (depends_of o.document)) modules m both.1
            (All-weaker (Contains (depends_of m.document)) (IsHeld now left) (λ name held. inr (Contains-append_left (depends_of m.document) rest name held)) (depends_of m.document) (All-contains_itself (depends_of m.document)));
      }
    where
      behind : (name : List ℕ) → Contains (m.name ∷ rest) name → IsHeld (modules ++ m ∷ []) (depends_of m.document ++ rest) name
      behind name (zero, lt, same) = inl (subst (λ (l : List ℕ). has_module (modules ++ m ∷ []) l ≡ true) same (has-pushed modules m))
      behind name (suc k, lt, same) = inr (Contains-append_right (depends_of m.document) rest name (k, omega (arith, lt), same))

      to : (name : List ℕ) → IsHeld modules coming name → IsHeld (modules ++ m ∷ []) (depends_of m.document ++ rest) name
      to name (inl has) = inl (has-more modules (m ∷ []) name has)
      to name (inr there) = behind name (subst (λ (l : List (List ℕ)). Contains l name) is there)

  -- with none to come
  pub AreReadWhole-ended : coming ≡ [] → AreReadWhole modules names
  AreReadWhole-ended none = record {
    named = All-weaker (IsHeld modules coming) (λ n. has_module modules n ≡ true) read names are.named;
    depends = All-weaker (λ (m : Module). All (IsHeld modules coming) (depends_of m.document)) (λ (m : Module). All (λ n. has_module modules n ≡ true) (depends_of m.document))
        (λ m all. All-weaker (IsHeld modules coming) (λ n. has_module modules n ≡ true) read (depends_of m.document) all) modules are.depends;
  }
    where
      nowhere : (name : List ℕ) → Contains [] name → has_module modules name ≡ true
      nowhere name (k, lt, same) = absurd (omega (arith, lt))

      read : (name : List ℕ) → IsHeld modules coming name → has_module modules name ≡ true
      read name (inl has) = has
      read name (inr there) = nowhere name (subst (λ (l : List (List ℕ)). Contains l name) none there)

-- the end of reading: no name is left
pub whole-ended : (modules : List Module) (coming names rest : List (List ℕ)) (next : Option (List ℕ)) → AreHeld modules coming names → Passes modules coming next rest → next ≡ None → AreReadWhole modules names
whole-ended modules coming names rest next are passed none =
    AreReadWhole-ended modules (taken_before next rest) names (AreHeld-passed modules coming names are next rest passed) (ap (λ (o : Option (List ℕ)). taken_before o rest) none ∙ passed.3 none)

-- one module more, and the names on which it depends
pub held-read : (modules : List Module) (coming names rest : List (List ℕ)) (next : Option (List ℕ)) (m : Module) → AreHeld modules coming names → Passes modules coming next rest → next ≡ Some m.name
    → AreHeld (modules ++ m ∷ []) (depends_of m.document ++ rest) names
held-read modules coming names rest next m are passed is =
    AreHeld-read modules (taken_before next rest) names (AreHeld-passed modules coming names are next rest passed) rest m (ap (λ (o : Option (List ℕ)). taken_before o rest) is)
