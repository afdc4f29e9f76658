-- The least of the ids that no row has, id by id.
use Rattle.std.proofs.Common.{◌≡◌, inl, inr, ℕ, ◌≤◌, min, List, [], ◌∷◌, ◌++◌, Option, Some, None, subst, arith}
use Rattle.std.specs.Prelude.{IfSome, IsSome, All, Contains}
use Rattle.std.specs.Option.{option_map_or}
use Rattle.std.proofs.lemmas.Bool.{cases_lt}
use Rattle.std.proofs.lemmas.List.Elements.{All-push, All-weaker, Contains-push, Contains-append_left}
use Rattle.ob_base.specs.declared.id.ModelNo.{ModelNo}
use Rattle.ob_call.specs.Ids.{IsLeastMissing}
use Rattle.ob_schema.specs.Tables.{PlainRow, Tables, row_at}

-- the least of an id and the one before it
abbrev pub least_of : Option ℕ → ℕ → ℕ
least_of before id = option_map_or (λ other. min other id) before id

module _ (model : ModelNo) (tables : Tables) where
  -- an id has a row
  abbrev pub IsThere : ℕ → Type 0
  IsThere id = IsSome (row_at tables model (record { 0 = id }))

  -- no id above one that no row has
  abbrev pub Least : ℕ → ℕ → Type 0
  Least id other = row_at tables model (record { 0 = other }) ≡ None → id ≤ other

  -- an id that has a row is not missing
  has_row : (id other : ℕ) → IsThere other → Least id other
  has_row id other there none = absurd (let e = subst (λ (o : Option PlainRow). IsSome o) none there in cc)

  -- none of the ids of rows is missing
  pub least-there : (id : ℕ) (ids : List ℕ) → All IsThere ids → All (Least id) ids
  least-there id ids there = All-weaker IsThere (Least id) (λ other is. has_row id other is) ids there

  -- one id more that has a row
  pub missing-kept : (ids : List ℕ) (gap id : ℕ) → IsLeastMissing model tables ids gap → IsThere id → IsLeastMissing model tables (ids ++ id ∷ []) gap
  missing-kept ids gap id are there = record {
    asked = Contains-append_left ids (id ∷ []) gap are.asked;
    missing = are.missing;
    least = All-push (Least gap) ids id are.least (has_row gap id there);
  }

  -- the first that has none
  pub missing-first : (ids : List ℕ) (id : ℕ) → All IsThere ids → row_at tables model (record { 0 = id }) ≡ None → IsLeastMissing model tables (ids ++ id ∷ []) id
  missing-first ids id there none = record {
    asked = Contains-push ids id;
    missing = none;
    least = All-push (Least id) ids id (least-there id ids there) (λ e. omega arith);
  }

  -- of two ids that are missing the lesser one is the least
  pub missing-lesser : (ids : List ℕ) (gap id : ℕ) → IsLeastMissing model tables ids gap → row_at tables model (record { 0 = id }) ≡ None → IsLeastMissing model tables (ids ++ id ∷ []) (min gap id)
  missing-lesser ids gap id are none =
      elim (cases_lt gap id) [
        | inl lt ↦ (let same : min gap id ≡ gap = omega arith in
            rw same (record {
              asked = Contains-append_left ids (id ∷ []) gap are.asked;
              missing = are.missing;
              least = All-push (Least gap) ids id are.least (λ e. omega arith);
            }))
        | inr le ↦ (let same : min gap id ≡ id = omega arith in
            rw same (record {
              asked = Contains-push ids id;
              missing = none;
              least = All-push (Least id) ids id (All-weaker (Least gap) (Least id) (λ x h e. let lower = h e in omega arith) ids are.least) (λ e. omega arith);
            }))
      ]

-- the least of the missing ids was asked for
pub asked-gap : (ids : List ℕ) (missing : Option ℕ) (id : ℕ) → IfSome missing (Contains ids) → Contains (ids ++ id ∷ []) (least_of missing id)
asked-gap ids None id asked = Contains-push ids id
asked-gap ids (Some gap) id asked =
    elim (cases_lt gap id) [
      | inl lt ↦ (let same : min gap id ≡ gap = omega arith in rw same (Contains-append_left ids (id ∷ []) gap asked))
      | inr le ↦ (let same : min gap id ≡ id = omega arith in rw same (Contains-push ids id))
    ]

-- it still is, with one id more
pub asked-still : (ids : List ℕ) (missing : Option ℕ) (id : ℕ) → IfSome missing (Contains ids) → IfSome missing (Contains (ids ++ id ∷ []))
asked-still ids None id asked = tt
asked-still ids (Some gap) id asked = Contains-append_left ids (id ∷ []) gap asked
