-- Over tied tables each row of a tree stands at a depth, and none deeper than a tree may be.
use Rattle.std.proofs.Common.{◌≡◌, ◌⊎◌, inl, inr, ℕ, zero, suc, ◌≤◌, Bool, true, false, not, ◌==◌, List, [], ◌∷◌, length, filter, Option, Some, None, refl, sym, ap, subst, ◌∙◌, arith, eqb-true, eq-eqb}
use Rattle.std.specs.Prelude.{IsSome, IsSomeAnd}
use Rattle.std.proofs.lemmas.Bool.{cases_lt}
use Rattle.ob_base.specs.declared.id.Cell.{Cell}
use Rattle.ob_base.specs.declared.id.FieldNo.{FieldNo}
use Rattle.ob_base.specs.declared.id.ModelNo.{ModelNo}
use Rattle.ob_base.specs.declared.id.RecId.{RecId}
use Rattle.ob_base.specs.declared.value.Value.{Value}
use Rattle.ob_base.specs.declared.value.Value.TheVariants as value
use Rattle.ob_schema.specs.Chains.{Reaches, ReachesOver}
use Rattle.ob_schema.specs.declared.info.ModelInfo.{ModelInfo}
use Rattle.ob_schema.specs.Models.{model_at}
use Rattle.ob_schema.specs.Tied.{HasDepth, IsCircled, IsLeastOf, IsParentIn, IsTied, IsTooDeep}
use Rattle.ob_base.specs.Limits.{max_tree_depth}
use Rattle.ob_schema.specs.Tables.{Fits, PlainRow, Tables, kept_in, next_of, row_at}
use Rattle.ob_tables.proofs.FewerIds.{below-stands, fewer, ids_below, stays}
use Rattle.ob_tables.proofs.KnownFields.{is_there, known_at, some_or_none, tell_and, there_is}
use Rattle.ob_tables.proofs.NamedBack.{Stands}

-- where none is left, none stands there
none_left : (left : List RecId) (id : RecId) → length left ≤ 0 → Stands id left → ⊥
none_left [] id few among = among
none_left (x ∷ left) id few among = omega arith

-- an id has its own number
itself : (id : RecId) → not (id.0 == id.0) ≡ false
itself id = ap not (eq-eqb id.0 id.0 refl)

-- another id has another number
apart : (id other : RecId) → (other ≡ id → ⊥) → not (other.0 == id.0) ≡ true
apart id other differs = by (other.0 == id.0) refl
  where
    by : (b : Bool) → (other.0 == id.0) ≡ b → not b ≡ true
    by true is = (let same : other.0 ≡ id.0 = eqb-true other.0 id.0 is in absurd (differs (λ i. record { 0 = same i })))
    by false is = refl

module _ (models : List ModelInfo) (tables : Tables) (fits : Fits models tables) (tied : IsTied models tables) (model : ModelNo) (parent : FieldNo) (info : ModelInfo) (model_is : model_at models model ≡ Some info)
    (parent_is : info.parent ≡ Some parent) where
  -- a row is there
  abbrev IsIn : RecId → Type 0
  IsIn id = IsSome (row_at tables model id)

  -- a row is the parent of another
  abbrev pub Up : RecId → RecId → Type 0
  Up id other = IsParentIn models tables model parent id other

  -- the cell of a row's parent field
  abbrev cell_of : RecId → Cell
  cell_of id = record { model = model; id = id; field = parent }

  -- the field is the parent field of the model
  tree : IsSomeAnd (model_at models model) (λ info. info.parent ≡ Some parent)
  tree = tell_and (model_at models model) info (λ info. info.parent ≡ Some parent) model_is parent_is

  -- where no row is the least of a kind, no row is of that kind
  none_of : (P : ModelNo → FieldNo → RecId → Type 0) → ((cell : Cell) → IsLeastOf models tables P cell → ⊥) → (n : ℕ) (id : RecId) → id.0 ≤ n → IsIn id → P model parent id → ⊥
  none_of P none zero id le there holds = none (cell_of id) (tree, there, holds, λ other _ _. omega arith)
  none_of P none (suc n) id le there holds =
      none (cell_of id) (tree, there, holds, λ other there' holds'. elim (cases_lt other.0 id.0) [ inl less ↦ absurd (none_of P none n other (omega arith) there' holds') | inr high ↦ high ])

  -- no row is above itself, and none too deep
  no_circle : (id : RecId) → IsIn id → IsCircled models tables model parent id → ⊥
  no_circle id there circled = none_of (IsCircled models tables) tied.1 id.0 id (omega arith) there circled

  -- no depth is greater than a tree may have
  pub depth_low : (id : RecId) (d : ℕ) → IsIn id → HasDepth models tables model parent d id → d ≤ 64
  depth_low id d there has = elim (cases_lt max_tree_depth d) [
    | inl deep ↦ absurd (none_of (IsTooDeep models tables) tied.2 id.0 id (omega arith) there (d, has, deep))
    | inr low ↦ omega arith
  ]

  -- a row has a parent, or none
  parent_of : (id : RecId) (row : PlainRow) → row_at tables model id ≡ Some row → ((other : RecId) × Up id other) ⊎ ((other : RecId) → Up id other → ⊥)
  parent_of id row there = by (kept_in row parent) refl
    where
      Above : RecId → PlainRow → Type 0
      Above other row = (kept_in row parent ≡ value.Ref other) × IsSome (row_at tables model other)

      not : (v : Value) → kept_in row parent ≡ v → ((other : RecId) → v ≡ value.Ref other → ⊥) → (other : RecId) → Up id other → ⊥
      not v is apart other up = let known = known_at (row_at tables model id) row (λ row. (kept_in row parent ≡ value.Ref other) × IsSome (row_at tables model other)) there up in apart other (sym is ∙ known.0)

      by : (v : Value) → kept_in row parent ≡ v → ((other : RecId) × Up id other) ⊎ ((other : RecId) → Up id other → ⊥)
      by (value.Ref other) is = elim (some_or_none (row_at tables model other)) [
        | inr some ↦ inl (other, tell_and (row_at tables model id) row (λ row. (kept_in row parent ≡ value.Ref other) × IsSome (row_at tables model other)) there (is, there_is (row_at tables model other) some.0 some.1))
        | inl none ↦ inr (λ another up.
            let known = known_at (row_at tables model id) row (λ row. (kept_in row parent ≡ value.Ref another) × IsSome (row_at tables model another)) there up in
            let same : other ≡ another = cc in
            let missing : row_at tables model another ≡ None = subst (λ (x : RecId). row_at tables model x ≡ None) same none in
            let at = is_there (row_at tables model another) known.1 in absurd cc)
      ]
      by value.Nil is = inr (not value.Nil is (λ other same. cc))
      by (value.Bool b) is = inr (not (value.Bool b) is (λ other same. cc))
      by (value.Int n) is = inr (not (value.Int n) is (λ other same. cc))
      by (value.Word text) is = inr (not (value.Word text) is (λ other same. cc))
      by (value.Day n) is = inr (not (value.Day n) is (λ other same. cc))
      by (value.Moment n) is = inr (not (value.Moment n) is (λ other same. cc))
      by (value.Refs ids) is = inr (not (value.Refs ids) is (λ other same. cc))

  -- a row has one parent, which is there
  pub up_there : (id other : RecId) → Up id other → IsIn other
  up_there id other up = by (row_at tables model id) up
    where
      by : (o : Option PlainRow) → IsSomeAnd o (λ row. (kept_in row parent ≡ value.Ref other) × IsSome (row_at tables model other)) → IsIn other
      by None up = absurd up
      by (Some row) up = up.1

  -- and no other
  up_once : (id a b : RecId) → Up id a → Up id b → a ≡ b
  up_once id a b first second = by (row_at tables model id) first second
    where
      by : (o : Option PlainRow) → IsSomeAnd o (λ row. (kept_in row parent ≡ value.Ref a) × IsSome (row_at tables model a)) → IsSomeAnd o (λ row. (kept_in row parent ≡ value.Ref b) × IsSome (row_at tables model b)) → a ≡ b
      by None first second = absurd first
      by (Some row) first second = cc (first.0, second.0)

  -- one of those above
  abbrev IsAbove : RecId → RecId → Type 0
  IsAbove id other = (id ≡ other) ⊎ Reaches Up id other

  -- a row that is reached is there
  reached_there : (n : ℕ) (id other : RecId) → ReachesOver Up n id other → IsIn other
  reached_there zero id other up = up_there id other up
  reached_there (suc n) id other on = reached_there n on.0 other on.2

  -- what is above the parent is above the row
  further : (id other above : RecId) → Up id other → IsAbove other above → IsAbove id above
  further id other above up (inl is) = inr (zero, subst (λ (x : RecId). Up id x) is up)
  further id other above up (inr on) = inr (suc on.0, (other, up, on.1))

  -- no row above the parent is the row itself
  circled : (id other above : RecId) → Up id other → IsIn id → IsAbove other above → above ≡ id → ⊥
  circled id other above up there is same = by (subst (IsAbove id) same (further id other above up is)) is
    where
      by : IsAbove id id → IsAbove other above → ⊥
      by (inr on) is = no_circle id there on
      by (inl _) (inl is) = no_circle id there (zero, subst (λ (x : RecId). Up id x) (is ∙ same) up)
      by (inl _) (inr on) = no_circle id there (suc on.0, (other, up, subst (λ (x : RecId). ReachesOver Up on.0 other x) same on.1))

  -- a row stands one deeper than its parent
  deeper : (id other : RecId) → Up id other → (d : ℕ) × HasDepth models tables model parent d other → (d : ℕ) × HasDepth models tables model parent d id
  deeper id other up (zero, has) = absurd has
  deeper id other up (suc d, has) = (suc (suc d), (other, up, has))

  -- as long as each row above is among those left, there is a depth
  depth_among : (n : ℕ) (left : List RecId) (id : RecId) → length left ≤ n → IsIn id → ((other : RecId) → IsAbove id other → Stands other left) → (d : ℕ) × HasDepth models tables model parent d id
  depth_among zero left id few there among = absurd (none_left left id few (among id (inl refl)))
  depth_among (suc n) left id few there among =
      let row = is_there (row_at tables model id) there in
      elim (parent_of id row.0 row.1) [
        | inr none ↦ (suc zero, none)
        | inl (other, up) ↦ (let test = λ (x : RecId). not (x.0 == id.0) in
            let shorter = fewer test id left (among id (inl refl)) (itself id) in
            deeper id other up
            (depth_among n (filter test left) other (omega arith) (up_there id other up) (λ above is. stays test above left (among above (further id other above up is)) (apart id above (λ same. circled id other above up there is same)))))
      ]

  -- each row that is there has a depth
  pub depth_of : (id : RecId) → IsIn id → (d : ℕ) × HasDepth models tables model parent d id
  depth_of id there =
      let left = ids_below (next_of tables model) in
      depth_among (length left) left id (omega arith) there (λ other above. below-stands (next_of tables model) other (fits.above model other (at other above)))
    where
      at : (other : RecId) → IsAbove id other → IsIn other
      at other (inl is) = subst IsIn is there
      at other (inr on) = reached_there on.0 id other on.1

  -- the parent stands one higher, a child one deeper
  pub depth_up : (d : ℕ) (id other : RecId) → HasDepth models tables model parent d id → Up id other → (e : ℕ) × (d ≡ suc e) × HasDepth models tables model parent e other
  depth_up zero id other has up = absurd has
  depth_up (suc zero) id other has up = absurd (has other up)
  depth_up (suc (suc e)) id other has up = (suc e, refl, subst (HasDepth models tables model parent (suc e)) (up_once id has.0 other has.1 up) has.2)

  -- a child stands one deeper
  pub depth_down : (d : ℕ) (id other : RecId) → HasDepth models tables model parent d other → Up id other → HasDepth models tables model parent (suc d) id
  depth_down zero id other has up = absurd has
  depth_down (suc d) id other has up = (other, up, has)
