-- The least of some ids that fails a test, id by id.
use Rattle.std.proofs.Common.{◌≡◌, inl, inr, ℕ, ◌≤◌, min, true, false, Bool, List, [], ◌∷◌, ◌++◌, sym, ◌∙◌, arith}
use Rattle.std.specs.Prelude.{All}
use Rattle.std.proofs.lemmas.Bool.{cases_lt}
use Rattle.std.proofs.lemmas.List.Elements.{All-push, All-weaker, Contains-push, Contains-append_left}
use Rattle.ob_base.specs.declared.id.RecId.{RecId}
use Rattle.ob_query.specs.Read.{IsLeastFailing}

module _ (test : RecId → Bool) where
  -- an id passes
  abbrev pub Passes : ℕ → Type 0
  Passes id = test (record { 0 = id }) ≡ true

  -- all do
  abbrev pub AllPass : List ℕ → Type 0
  AllPass ids = All Passes ids

  -- no id above one that fails
  abbrev Least : ℕ → ℕ → Type 0
  Least id other = test (record { 0 = other }) ≡ false → id ≤ other

  passing : (id other : ℕ) → Passes other → Least id other
  passing id other is fails = absurd (let e : true ≡ false = sym is ∙ fails in cc)

  -- one id more that passes
  pub failing-kept : (ids : List ℕ) (gap id : ℕ) → IsLeastFailing test ids gap → Passes id → IsLeastFailing test (ids ++ id ∷ []) gap
  failing-kept ids gap id are is = record {
    asked = Contains-append_left ids (id ∷ []) gap are.asked;
    fails = are.fails;
    least = All-push (Least gap) ids id are.least (passing gap id is);
  }

  -- the first that fails
  pub failing-first : (ids : List ℕ) (id : ℕ) → AllPass ids → test (record { 0 = id }) ≡ false → IsLeastFailing test (ids ++ id ∷ []) id
  failing-first ids id pass fails = record {
    asked = Contains-push ids id;
    fails = fails;
    least = All-push (Least id) ids id (All-weaker Passes (Least id) (λ other is. passing id other is) ids pass) (λ e. omega arith);
  }

  -- of two that fail the lesser one is the least
  pub failing-lesser : (ids : List ℕ) (gap id : ℕ) → IsLeastFailing test ids gap → test (record { 0 = id }) ≡ false → IsLeastFailing test (ids ++ id ∷ []) (min gap id)
  failing-lesser ids gap id are fails =
      elim (cases_lt gap id) [
        | inl lt ↦ (let same : min gap id ≡ gap = omega arith in
            rw same (record {
              asked = Contains-append_left ids (id ∷ []) gap are.asked;
              fails = are.fails;
              least = All-push (Least gap) ids id are.least (λ e. omega arith);
            }))
        | inr le ↦ (let same : min gap id ≡ id = omega arith in
            rw same (record {
              asked = Contains-push ids id;
              fails = fails;
              least = All-push (Least id) ids id (All-weaker (Least gap) (Least id) (λ x h e. let lower = h e in omega arith) ids are.least) (λ e. omega arith);
            }))
      ]
