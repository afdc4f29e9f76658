-- One id more whose row is taken, or whose cell is added.
use Rattle.std.proofs.Common.{◌≡◌, ◌⊎◌, ◌↔◌, ◌+◌, ◌<◌, inl, inr, ℕ, List, [], ◌∷◌, ◌++◌, take, get_or, length, sym, ap, subst, ◌∙◌}
use Rattle.std.specs.Prelude.{Contains}
use Rattle.std.proofs.lemmas.List.{map-append, take_more}
use Rattle.std.proofs.lemmas.List.Elements.{Contains-append_left, Contains-push, Contains-push_cases}
use Rattle.ob_base.specs.declared.id.Cell.{Cell}
use Rattle.ob_base.specs.declared.id.ModelNo.{ModelNo}
use Rattle.ob_base.specs.declared.id.RecId.{RecId}
use Rattle.ob_base.specs.declared.id.RowKey.{RowKey}
use Rattle.ob_unlink.specs.DeletionSteps.{cell_by}
use Rattle.ob_rows.specs.declared.relations.KeptRelation.{KeptRelation}
use Rattle.ob_rows.specs.Rights.{rows_named}
use Rattle.ob_rows.proofs.CallerLemmas.{contains-more}
use Rattle.ob_schema.proofs.CallerLemmas.{contains-none}

-- the row of an id
abbrev pub row_by : ModelNo → ℕ → RowKey
row_by model id = record { model = model; id = record { 0 = id } }

-- the named rows, one more
pub named-more : (model : ModelNo) (ids : List ℕ) (i : ℕ) → i < length ids → (row : RowKey)
    → (Contains (rows_named model (take i ids)) row ⊎ (row ≡ row_by model (get_or ids i 0))) ↔ Contains (rows_named model (take (i + 1) ids)) row
named-more model ids i within row = (to, from)
  where
    more : rows_named model (take (i + 1) ids) ≡ rows_named model (take i ids) ++ row_by model (get_or ids i 0) ∷ []
    more = ap (rows_named model) (take_more ids i 0 within) ∙ map-append (row_by model) (take i ids) (get_or ids i 0 ∷ [])

    with_it : Contains (rows_named model (take i ids)) row ⊎ (row ≡ row_by model (get_or ids i 0)) → Contains (rows_named model (take i ids) ++ row_by model (get_or ids i 0) ∷ []) row
    with_it (inl c) = Contains-append_left (rows_named model (take i ids)) (row_by model (get_or ids i 0) ∷ []) row c
    with_it (inr is) =
        subst (λ (r : RowKey). Contains (rows_named model (take i ids) ++ row_by model (get_or ids i 0) ∷ []) r) (sym is) (Contains-push (rows_named model (take i ids)) (row_by model (get_or ids i 0)))

    to : Contains (rows_named model (take i ids)) row ⊎ (row ≡ row_by model (get_or ids i 0)) → Contains (rows_named model (take (i + 1) ids)) row
    to either = subst (λ (l : List RowKey). Contains l row) (sym more) (with_it either)

    from : Contains (rows_named model (take (i + 1) ids)) row → Contains (rows_named model (take i ids)) row ⊎ (row ≡ row_by model (get_or ids i 0))
    from c = elim (Contains-push_cases (rows_named model (take i ids)) (row_by model (get_or ids i 0)) row (subst (λ (l : List RowKey). Contains l row) more c)) [ inl old ↦ inl old | inr is ↦ inr (sym is) ]

pub named-none : (model : ModelNo) (ids : List ℕ) (row : RowKey) → ids ≡ [] → Contains (rows_named model ids) row → ⊥
named-none model ids row none c = contains-none row (subst (λ (l : List ℕ). Contains (rows_named model l) row) none c)

-- rows of a model
abbrev pub OfIds : ModelNo → List RecId → RowKey → Type 0
OfIds model ids row = (row.model ≡ model) × Contains ids row.id

pub rows-more : (model : ModelNo) (ids : List RecId) (i : ℕ) (d : RecId) → i < length ids → (row : RowKey)
    → (OfIds model (take i ids) row ⊎ (row ≡ record { model = model; id = get_or ids i d })) ↔ OfIds model (take (i + 1) ids) row
rows-more model ids i d within row = (to, from)
  where
    to : OfIds model (take i ids) row ⊎ (row ≡ record { model = model; id = get_or ids i d }) → OfIds model (take (i + 1) ids) row
    to (inl (own, among)) = (own, (contains-more ids i d row.id within).1 (inl among))
    to (inr is) = (ap (λ (r : RowKey). r.model) is, (contains-more ids i d row.id within).1 (inr (sym (ap (λ (r : RowKey). r.id) is))))

    from : OfIds model (take (i + 1) ids) row → OfIds model (take i ids) row ⊎ (row ≡ record { model = model; id = get_or ids i d })
    from (own, among) = elim ((contains-more ids i d row.id within).0 among) [
      | inl front ↦ inl (own, front)
      | inr is ↦ inr (λ j. record { model = own j; id = sym is j })
    ]

-- cells of a relation
abbrev pub OfRelation : KeptRelation → List RecId → Cell → Type 0
OfRelation relation ids cell = (cell ≡ cell_by relation cell.id) × Contains ids cell.id

pub cells-more : (relation : KeptRelation) (ids : List RecId) (i : ℕ) (d : RecId) → i < length ids → (cell : Cell)
    → (OfRelation relation (take i ids) cell ⊎ (cell ≡ cell_by relation (get_or ids i d))) ↔ OfRelation relation (take (i + 1) ids) cell
cells-more relation ids i d within cell = (to, from)
  where
    to : OfRelation relation (take i ids) cell ⊎ (cell ≡ cell_by relation (get_or ids i d)) → OfRelation relation (take (i + 1) ids) cell
    to (inl (is, among)) = (is, (contains-more ids i d cell.id within).1 (inl among))
    to (inr is) =
        let row : get_or ids i d ≡ cell.id = sym (ap (λ (c : Cell). c.id) is) in
        (is ∙ ap (cell_by relation) row, (contains-more ids i d cell.id within).1 (inr row))

    from : OfRelation relation (take (i + 1) ids) cell → OfRelation relation (take i ids) cell ⊎ (cell ≡ cell_by relation (get_or ids i d))
    from (is, among) = elim ((contains-more ids i d cell.id within).0 among) [
      | inl front ↦ inl (is, front)
      | inr row ↦ inr (is ∙ ap (cell_by relation) (sym row))
    ]
