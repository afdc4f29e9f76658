-- Steps up a tree, and the depths of rows: where nothing is broken each row has one, and none a greater one than a tree may be deep.
use Rattle.std.proofs.Common.{◌≡◌, ◌⊎◌, inl, inr, ℕ, zero, suc, ◌+◌, ◌<◌, ◌≤◌, List, Some, None, refl, sym, ap, subst, ◌∙◌, arith}
use Rattle.std.specs.Prelude.{IsSome}
use Rattle.std.proofs.lemmas.Bool.{cases_lt}
use Rattle.ob_base.specs.Limits.{max_tree_depth}
use Rattle.ob_base.specs.declared.id.Cell.{Cell}
use Rattle.ob_base.specs.declared.id.FieldNo.{FieldNo}
use Rattle.ob_base.specs.declared.id.ModelNo.{ModelNo}
use Rattle.ob_base.specs.declared.id.RecId.{RecId}
use Rattle.ob_base.specs.declared.refusal.BrokenKind.TheVariants as kind
use Rattle.ob_base.specs.declared.value.Value.{Value}
use Rattle.ob_base.specs.declared.value.Value.TheVariants as value
use Rattle.ob_schema.specs.Broken.{Sound}
use Rattle.ob_schema.specs.Chains.{ReachesOver}
use Rattle.ob_schema.specs.Tables.{Fits, PlainRow, Tables, kept_in, next_of, row_at}
use Rattle.ob_schema.specs.Tied.{HasDepth, IsCircled, IsLeastOf, IsParentIn, IsTooDeep}
use Rattle.ob_schema.specs.declared.info.ModelInfo.{ModelInfo}
use Rattle.ob_tables.proofs.CallerLemmas.{is_there, some_or_none, there_is}
use Rattle.ob_change.specs.TreeRows.{HasParentField, IsUp}
use Rattle.ob_change.proofs.ParentFields.{up_made, up_parts, up_row, up_there}

module _ (models : List ModelInfo) (tables : Tables) (model : ModelNo) (parent : FieldNo) where
  abbrev Up : RecId → RecId → Type 0
  Up id other = IsParentIn models tables model parent id other

  abbrev Steps : ℕ → RecId → RecId → Type 0
  Steps n id top = IsUp models tables model parent n id top

  abbrev Has : ℕ → RecId → Type 0
  Has depth id = HasDepth models tables model parent depth id

  abbrev IsIn : RecId → Type 0
  IsIn id = IsSome (row_at tables model id)

  -- ---- steps

  -- one step more at the top
  pub steps-next : (n : ℕ) (id at other : RecId) → Steps n id at → Up at other → Steps (suc n) id other
  steps-next zero id at other same up = (other, subst (λ (x : RecId). Up x other) (sym same) up, refl)
  steps-next (suc n) id at other (first, one, on) up = (first, one, steps-next n first at other on up)

  -- both ends are there if one is
  pub steps-there : (n : ℕ) (id top : RecId) → IsIn id → Steps n id top → IsIn top
  steps-there zero id top there same = subst IsIn same there
  steps-there (suc n) id top there (first, one, on) = steps-there n first top (up_there models tables model parent id first one) on

  pub steps-row : (n : ℕ) (id top : RecId) → IsIn top → Steps n id top → IsIn id
  steps-row zero id top there same = subst IsIn (sym same) there
  steps-row (suc n) id top there (first, one, on) = up_row models tables model parent id first one

  -- steps, and then more
  steps-then : (n m : ℕ) (id at top : RecId) → Steps n id at → Steps (suc m) at top → (k : ℕ) × Steps (suc k) id top
  steps-then zero m id at top same more = (m, subst (λ (x : RecId). Steps (suc m) x top) (sym same) more)
  steps-then (suc n) m id at top (first, one, on) more = let rest = steps-then n m first at top on more in (suc rest.0, (first, one, rest.1))

  -- fewer steps lead to the same top from a row between
  steps-middle : (m k : ℕ) (id top : RecId) → k ≤ m → Steps m id top → (at : RecId) × Steps k at top
  steps-middle zero k id top few same = let is : zero ≡ k = omega arith in (id, subst (λ (n : ℕ). Steps n id top) is same)
  steps-middle (suc m) k id top few steps = elim (cases_lt k (suc m)) [
    | inl less ↦ steps-middle m k steps.0 top (omega arith) steps.2
    | inr all ↦ (let is : suc m ≡ k = omega arith in (id, subst (λ (n : ℕ). Steps n id top) is steps))
  ]

  -- what is reached is so many steps above
  pub reached-steps : (n : ℕ) (id top : RecId) → ReachesOver Up n id top → Steps (suc n) id top
  reached-steps zero id top up = (top, up, refl)
  reached-steps (suc n) id top (first, one, on) = (first, one, reached-steps n first top on)

  steps-reach : (n : ℕ) (id top : RecId) → Steps (suc n) id top → ReachesOver Up n id top
  steps-reach zero id top (first, one, same) = subst (λ (x : RecId). Up id x) same one
  steps-reach (suc n) id top (first, one, on) = (first, one, steps-reach n first top on)

  -- ---- depths

  deeper : (depth : ℕ) (id other : RecId) → Up id other → Has depth other → Has (suc depth) id
  deeper zero id other up has = absurd has
  deeper (suc depth) id other up has = (other, up, has)

  -- each step below a row is one deeper
  pub steps-deeper : (n depth : ℕ) (id top : RecId) → Has depth top → Steps n id top → Has (n + depth) id
  steps-deeper zero depth id top has same =
      let is : depth ≡ 0 + depth = omega arith in subst (λ (n : ℕ). Has n id) is (subst (λ (x : RecId). Has depth x) (sym same) has)
  steps-deeper (suc n) depth id top has (first, one, on) =
      let is : suc (n + depth) ≡ suc n + depth = omega arith in subst (λ (n : ℕ). Has n id) is (deeper (n + depth) id first one (steps-deeper n depth first top has on))

  -- a row has a parent, or none
  parent_or_none : (id : RecId) → IsIn id → ((other : RecId) × Up id other) ⊎ Has 1 id
  parent_or_none id there = let row = is_there (row_at tables model id) there in by row.0 row.1 (kept_in row.0 parent) refl
    where
      none : (row : PlainRow) (v : Value) → row_at tables model id ≡ Some row → kept_in row parent ≡ v → ((other : RecId) → v ≡ value.Ref other → IsIn other → ⊥) → Has 1 id
      none row v at is not = λ other up.
          let t = up_parts models tables model parent id other up in
          let same : t.0 ≡ row = let both : Some t.0 ≡ Some row = sym t.1 ∙ at in cc in
          not other (sym is ∙ sym (ap (λ (r : PlainRow). kept_in r parent) same) ∙ t.2) t.3

      by : (row : PlainRow) → row_at tables model id ≡ Some row → (v : Value) → kept_in row parent ≡ v → ((other : RecId) × Up id other) ⊎ Has 1 id
      by row at (value.Ref other) is = elim (some_or_none (row_at tables model other)) [
        | inr some ↦ inl (other, up_made models tables model parent id other row at is (there_is (row_at tables model other) some.0 some.1))
        | inl missing ↦ inr (none row (value.Ref other) at is (λ another same there.
            let one : other ≡ another = cc in
            let gone : row_at tables model another ≡ None = subst (λ (x : RecId). row_at tables model x ≡ None) one missing in
            let has = is_there (row_at tables model another) there in absurd cc))
      ]
      by row at v is = inr (none row v at is (λ other same there. cc))

  -- no row is its own parent, or that of one of its parents
  module _ (none_circled : (id : RecId) → IsIn id → IsCircled models tables model parent id → ⊥) where
    -- a row has a depth, or is below one of no less than a number
    ends_or_on : (n : ℕ) (id : RecId) → IsIn id → ((depth : ℕ) × Has depth id) ⊎ ((m : ℕ) × (top : RecId) × Steps (suc m) id top × (n ≤ top.0))
    ends_or_on zero id there = elim (parent_or_none id there) [
      | inl (other, up) ↦ inr (zero, other, (other, up, refl), omega arith)
      | inr root ↦ inl (1, root)
    ]
    ends_or_on (suc n) id there = elim (ends_or_on n id there) [
      | inl ends ↦ inl ends
      | inr (m, at, on, high) ↦ elim (cases_lt n at.0) [
        | inl less ↦ inr (m, at, on, omega arith)
        | inr low ↦ elim (ends_or_on n at (steps-there (suc m) id at there on)) [
          | inl (depth, has) ↦ inl (suc m + depth, steps-deeper (suc m) depth id at has on)
          | inr (k, top, more, above) ↦ elim (cases_lt n top.0) [
            | inl less ↦ (let all = steps-then (suc m) k id at top on more in inr (all.0, top, all.1, omega arith))
            | inr same ↦ absurd (round at top k (steps-there (suc m) id at there on) more (omega arith))
          ]
        ]
      ]
    ]
      where
        round : (at top : RecId) (k : ℕ) → IsIn at → Steps (suc k) at top → at.0 ≡ top.0 → ⊥
        round at top k there on same =
            let is : top ≡ at = λ i. record { 0 = sym same i } in
            none_circled at there (k, subst (λ (x : RecId). ReachesOver Up k at x) is (steps-reach k at top on))

    -- each row that is there has a depth
    pub depth_there : Fits models tables → (id : RecId) → IsIn id → (depth : ℕ) × Has depth id
    depth_there fits id there = elim (ends_or_on (next_of tables model) id there) [
      | inl ends ↦ ends
      | inr (m, top, on, high) ↦ (let low = fits.above model top (steps-there (suc m) id top there on) in absurd (omega arith))
    ]

  -- ---- where nothing is broken

  module _ (tree : HasParentField models model parent) (sound : Sound models tables) where
    -- where no row is the least of a kind, no row is of that kind
    none_of : (P : ModelNo → FieldNo → RecId → Type 0) → ((cell : Cell) → IsLeastOf models tables P cell → ⊥) → (n : ℕ) (id : RecId) → id.0 ≤ n → IsIn id → P model parent id → ⊥
    none_of P none zero id le there holds = none (record { model = model; id = id; field = parent }) (tree, there, holds, λ other _ _. omega arith)
    none_of P none (suc n) id le there holds =
        none (record { model = model; id = id; field = parent })
        (tree, there, holds, λ other there' holds'. elim (cases_lt other.0 id.0) [ inl less ↦ absurd (none_of P none n other (omega arith) there' holds') | inr high ↦ high ])

    none_circled : (id : RecId) → IsIn id → IsCircled models tables model parent id → ⊥
    none_circled id = none_of (IsCircled models tables) (λ cell least. sound (record { kind = kind.Tree; cell = cell }) least) id.0 id (omega arith)

    none_deep : (id : RecId) → IsIn id → IsTooDeep models tables model parent id → ⊥
    none_deep id = none_of (IsTooDeep models tables) (λ cell least. sound (record { kind = kind.Depth; cell = cell }) least) id.0 id (omega arith)

    -- no row stands below as many as there may be
    pub none_far : Fits models tables → (n : ℕ) (id top : RecId) → max_tree_depth ≤ n → Steps n id top → ⊥
    none_far fits zero id top far on = omega arith
    none_far fits (suc n) id top far on =
        let there = up_row models tables model parent id on.0 on.1 in
        let has = depth_there none_circled fits top (steps-there (suc n) id top there on) in
        none_deep id there (suc n + has.0, steps-deeper (suc n) has.0 id top has.1 on, above has.0 has.1)
      where
        above : (depth : ℕ) → Has depth top → max_tree_depth < suc n + depth
        above zero has = absurd has
        above (suc depth) has = omega arith

    -- nor so far below one that it is too deep
    pub none_below : (n depth : ℕ) (id top : RecId) → IsIn top → Has depth top → max_tree_depth < n + depth → Steps n id top → ⊥
    none_below n depth id top there has deep on = none_deep id (steps-row n id top there on) (n + depth, steps-deeper n depth id top has on, deep)

  -- ---- a row that has a depth

  module _ (once : (id : RecId) (depth other : ℕ) → Has depth id → Has other id → depth ≡ other) where
    -- isn't on a circle
    pub depth-no_circle : (depth : ℕ) (id : RecId) → Has depth id → IsCircled models tables model parent id → ⊥
    depth-no_circle depth id has (n, on) = let same = once id depth (suc n + depth) has (steps-deeper (suc n) depth id id has (reached-steps n id id on)) in omega (arith, same)

    -- and has none too deep below it where so many steps down there is none
    pub depth-none_sinks : (depth left : ℕ) (top : RecId) → Has depth top → depth + left ≤ suc max_tree_depth → ((id : RecId) → Steps left id top → ⊥)
        → (n : ℕ) (id : RecId) → Steps n id top → IsTooDeep models tables model parent id → ⊥
    depth-none_sinks depth left top has low none n id on (deep, is, above) =
        let same = once id (n + depth) deep (steps-deeper n depth id top has on) is in
        let middle = steps-middle n left id top (omega (arith, same, above, low)) on in none middle.0 middle.1
