-- The rows below a row, by levels: each is one that names one of the level above by the parent field.
use Rattle.std.proofs.Common.{◌≡◌, ◌⊎◌, ◌↔◌, ◌==◌, inl, inr, ℕ, suc, Bool, true, false, cond, List, [], ◌∷◌, ◌++◌, length, filter, Option, Some, None, unwrap_or, refl, sym, ap, subst, ◌∙◌, eqb-true, eq-eqb, arith}
use Rattle.std.specs.Prelude.{Contains, IfSome, IsSome, IsSomeAnd}
use Rattle.std.specs.FinMap as finite
use Rattle.std.specs.FinMap.Entries.{find}
use Rattle.std.specs.Ordering.{is_eq}
use Rattle.std.proofs.lemmas.List.Elements.{Contains-append_cases, Contains-append_left, Contains-append_right, Contains-push, Contains-push_cases}
use Rattle.std.proofs.lemmas.Map.Views.{tells_apart}
use Rattle.std.proofs.lemmas.Option.{same_Some}
use Rattle.ob_base.specs.Ids.{row_key_cmp}
use Rattle.ob_base.specs.declared.id.FieldNo.{FieldNo}
use Rattle.ob_base.specs.declared.id.ModelNo.{ModelNo}
use Rattle.ob_base.specs.declared.id.RecId.{RecId}
use Rattle.ob_base.specs.declared.id.RowKey.{RowKey}
use Rattle.ob_base.specs.declared.value.Value.{Value}
use Rattle.ob_base.specs.declared.value.Value.TheVariants as value
use Rattle.ob_definition.specs.Values.{HasType}
use Rattle.ob_definition.specs.declared.field_type.Choice.{Choice}
use Rattle.ob_definition.specs.declared.field_type.FieldType.{FieldType}
use Rattle.ob_definition.specs.declared.field_type.FieldType.TheVariants as type
use Rattle.ob_expr.specs.Reads.{IsAmong}
use Rattle.ob_schema.proofs.CallerLemmas.{contains-cases, contains-first, contains-later, contains-mapped, contains-none}
use Rattle.ob_schema.specs.Fields.{IsGivable}
use Rattle.ob_schema.specs.Models.{field_at}
use Rattle.ob_schema.specs.Plain.{names, naming}
use Rattle.ob_schema.specs.Tables.{Fits, PlainRow, Tables, key_of, kept_in, row_at, rows_in}
use Rattle.ob_schema.specs.Tied.{IsParentIn}
use Rattle.ob_schema.specs.declared.info.ModelInfo.{ModelInfo}
use Rattle.ob_tables.proofs.CallerLemmas.{exact_rows, known_at, known_if, naming-there}
use Rattle.ob_change.specs.TreeRows.{AreChildren, IsUp}
use Rattle.ob_change.proofs.ParentFields.{ParentField, up_made, up_parts}
use Rattle.ob_change.proofs.TreeSteps.{steps-row}

contrary : {P : Type 0} → false ≡ true → P
contrary e = cc

-- ---- lists

contains-among : (id : RecId) (ids : List RecId) → Contains ids id → IsAmong id ids
contains-among id [] c = contains-none id c
contains-among id (x ∷ ids) c = elim (contains-cases x ids id c) [ inl is ↦ inl (sym is) | inr later ↦ inr (contains-among id ids later) ]

-- a list is empty or has an item
pub no_item : (ids : List RecId) (n : ℕ) → n ≡ length ids → (n == 0) ≡ true → (id : RecId) → Contains ids id → ⊥
no_item ids n long none id c = let zero_is = eqb-true n 0 none in omega (arith, long, zero_is, c.1)

pub some_item : (ids : List RecId) (n : ℕ) → n ≡ length ids → (n == 0) ≡ false → (id : RecId) × Contains ids id
some_item [] n long some = contrary (sym some ∙ eq-eqb n 0 long)
some_item (id ∷ ids) n long some = (id, contains-first id ids)

-- one that passes a test is kept
contains-kept : {X : Type 0} (test : X → Bool) (xs : List X) (x : X) → Contains xs x → test x ≡ true → Contains (filter test xs) x
contains-kept test [] x c passes = absurd (contains-none x c)
contains-kept {X = X} test (y ∷ xs) x c passes = by (test y) refl (contains-cases y xs x c) (λ later. contains-kept test xs x later passes)
  where
    by : (b : Bool) → test y ≡ b → (y ≡ x) ⊎ Contains xs x → (Contains xs x → Contains (filter test xs) x) → Contains (cond b (y ∷ filter test xs) (filter test xs)) x
    by true is (inl same) rest = subst (λ (z : X). Contains (y ∷ filter test xs) z) same (contains-first y (filter test xs))
    by true is (inr later) rest = contains-later y (filter test xs) x (rest later)
    by false fails (inl same) rest = contrary (sym fails ∙ ap test same ∙ passes)
    by false fails (inr later) rest = rest later

-- what a key finds is one of the entries
contains-found : (q : RowKey) (es : List (RowKey × PlainRow)) (row : PlainRow) → find row_key_cmp q es ≡ Some row → Contains es (q, row)
contains-found q [] row e = cc
contains-found q (x ∷ es) row e = by (is_eq (row_key_cmp q x.0)) refl e (λ is. contains-found q es row is)
  where
    by : (b : Bool) → is_eq (row_key_cmp q x.0) ≡ b → cond b (Some x.1) (find row_key_cmp q es) ≡ Some row → (find row_key_cmp q es ≡ Some row → Contains es (q, row)) → Contains (x ∷ es) (q, row)
    by true same is again =
        let key : q ≡ x.0 = tells_apart exact_rows q x.0 same in
        let val : x.1 ≡ row = same_Some x.1 row is in
        subst (λ (e : RowKey × PlainRow). Contains (x ∷ es) e) (λ i. (sym key i, val i)) (contains-first x es)
    by false same is again = contains-later x es (q, row) (again is)

module _ (models : List ModelInfo) (tables : Tables) (model : ModelNo) (parent : FieldNo) where
  abbrev Up : RecId → RecId → Type 0
  Up id other = IsParentIn models tables model parent id other

  abbrev IsIn : RecId → Type 0
  IsIn id = IsSome (row_at tables model id)

  -- the rows so many steps below one
  abbrev pub IsLevel : RecId → ℕ → List RecId → Type 0
  IsLevel top n rows = (id : RecId) → Contains rows id ↔ IsUp models tables model parent n id top

  pub level-first : (top : RecId) → IsLevel top 0 (top ∷ [])
  level-first top id = (to, from)
    where
      to : Contains (top ∷ []) id → id ≡ top
      to c = elim (contains-cases top [] id c) [ inl is ↦ sym is | inr none ↦ absurd (contains-none id none) ]

      from : id ≡ top → Contains (top ∷ []) id
      from is = subst (λ (x : RecId). Contains (top ∷ []) x) (sym is) (contains-first top [])

  -- the rows that name one of these by the field, one of these more at a time
  pub children-none : AreChildren models tables model parent [] []
  children-none id = (λ c. absurd (contains-none id c), λ h. absurd (contains-none h.0 h.1))

  pub children-more : (rows children : List RecId) (row : RecId) → AreChildren models tables model parent rows children
      → AreChildren models tables model parent (rows ++ row ∷ []) (children ++ naming tables model parent row)
  children-more rows children row are id = (to, from)
    where
      named : List RecId
      named = naming tables model parent row

      to : Contains (children ++ naming tables model parent row) id → (one : RecId) × Contains (rows ++ row ∷ []) one × Contains (naming tables model parent one) id
      to c = elim (Contains-append_cases children (naming tables model parent row) id c) [
        | inl old ↦ (let h = (are id).0 old in (h.0, Contains-append_left rows (row ∷ []) h.0 h.1, h.2))
        | inr new ↦ (row, Contains-push rows row, new)
      ]

      from : ((one : RecId) × Contains (rows ++ row ∷ []) one × Contains (naming tables model parent one) id) → Contains (children ++ naming tables model parent row) id
      from (one, among, names_it) = elim (Contains-push_cases rows row one among) [
        | inl old ↦ Contains-append_left children (naming tables model parent row) id ((are id).1 (one, old, names_it))
        | inr same ↦ Contains-append_right children (naming tables model parent row) id (subst (λ (x : RecId). Contains (naming tables model parent x) id) (sym same) names_it)
      ]

  -- a row below another is one of those that name it
  up-named : (id other : RecId) → Up id other → Contains (naming tables model parent other) id
  up-named id other up =
      let t = up_parts models tables model parent id other up in
      let test = λ (e : RecId × PlainRow). names other (kept_in e.1 parent) in
      let es = finite.entries tables.rows in
      let passes : names other (kept_in t.0 parent) ≡ true = ap (names other) t.2 ∙ eq-eqb other.0 other.0 refl in
      let found = contains-found (key_of model id) es t.0 (sym (finite.get-entries tables.rows (key_of model id)) ∙ t.1) in
      let kept = contains-kept (λ (e : RowKey × PlainRow). e.0.model.0 == model.0) es (key_of model id, t.0) found (eq-eqb model.0 model.0 refl) in
      let there = contains-mapped (λ (e : RowKey × PlainRow). (e.0.id, e.1)) (filter (λ (e : RowKey × PlainRow). e.0.model.0 == model.0) es) (key_of model id, t.0) kept in
      contains-mapped (λ (e : RecId × PlainRow). e.0) (filter test (rows_in tables model)) (id, t.0) (contains-kept test (rows_in tables model) (id, t.0) there passes)

  module _ (field : ParentField models model parent) (fits : Fits models tables) where
    same_id : (a b : RecId) → (a.0 == b.0) ≡ true → a ≡ b
    same_id a b e = ap (λ n. record { 0 = n }) (eqb-true a.0 b.0 e)

    -- a many2one has a reference or nothing: so it names one row alone
    one_named : (t : FieldType) (choices : List Choice) (v : Value) (other : RecId) → t ≡ type.Many2one → HasType t choices v → names other v ≡ true → v ≡ value.Ref other
    one_named t choices v other many2one has named = by v (subst (λ (t : FieldType). HasType t choices v) many2one has) named
      where
        by : (v : Value) → HasType type.Many2one choices v → names other v ≡ true → v ≡ value.Ref other
        by (value.Ref id) has named = ap value.Ref (same_id id other named)
        by value.Nil has named = contrary named
        by _ has named = absurd has

    kept_named : (row : PlainRow) (id other : RecId) → row_at tables model id ≡ Some row → names other (kept_in row parent) ≡ true → kept_in row parent ≡ value.Ref other
    kept_named row id other there = by (finite.get row parent.0) refl
      where
        by : (o : Option Value) → finite.get row parent.0 ≡ o → names other (unwrap_or o value.Nil) ≡ true → unwrap_or o value.Nil ≡ value.Ref other
        by None is named = contrary named
        by (Some v) is named =
            let of_row = known_if (row_at tables model id) row (λ row. IfSome (finite.get row parent.0) (λ v. IsSomeAnd (field_at models model parent) (λ info. IsGivable info v))) there (fits.values model id parent) in
            let of_field = known_if (finite.get row parent.0) v (λ v. IsSomeAnd (field_at models model parent) (λ info. IsGivable info v)) is of_row in
            let has = known_at (field_at models model parent) field.info (λ info. IsGivable info v) field.info_at of_field in
            one_named field.info.field_type field.info.selection v other field.many2one has named

    -- and those that name it stand below it, if it is there
    named-up : (id other : RecId) → IsIn other → Contains (naming tables model parent other) id → Up id other
    named-up id other there named =
        let row = naming-there tables model parent other id (contains-among id (naming tables model parent other) named) in
        up_made models tables model parent id other row.0 row.1 (kept_named row.0 id other row.1 row.2) there

    pub level-next : (top : RecId) (n : ℕ) (rows children : List RecId) → IsIn top → IsLevel top n rows → AreChildren models tables model parent rows children → IsLevel top (suc n) children
    level-next top n rows children there level are id = (to, from)
      where
        to : Contains children id → IsUp models tables model parent (suc n) id top
        to c =
            let h = (are id).0 c in
            let on = (level h.0).0 h.1 in
            (h.0, named-up id h.0 (steps-row models tables model parent n h.0 top there on) h.2, on)

        from : IsUp models tables model parent (suc n) id top → Contains children id
        from (row, up, on) = (are id).1 (row, (level row).1 on, up-named id row up)
