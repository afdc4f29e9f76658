-- Rows that are taken one after another, those of them that wait, and cells that are added.
use Rattle.std.proofs.Common.{◌≡◌, ◌⊎◌, ◌↔◌, ◌+◌, inl, inr, ℕ, Bool, true, false, cond, not, List, [], ◌∷◌, ◌++◌, refl, sym, ap, subst, ◌∙◌, arith}
use Rattle.std.specs.Prelude.{Contains}
use Rattle.std.specs.Ordering.{is_eq, nat_cmp, ordering_then}
use Rattle.std.specs.BTreeSet as sorted
use Rattle.std.proofs.lemmas.List.Elements.{Contains-append_left, Contains-push, Contains-push_cases}
use Rattle.std.proofs.lemmas.Map.Lookups.{CmpEqualImpliesEq, exact_pairs, exact_unsigned}
use Rattle.std.proofs.lemmas.Map.Views.{btree_set_contains_iff}
use Rattle.ob_base.proofs.CallerLemmas.{cell_order_total}
use Rattle.ob_base.specs.BrokenOrder.{cell_order}
use Rattle.ob_base.specs.declared.id.Cell.{Cell}
use Rattle.ob_base.specs.declared.id.RowKey.{RowKey}
use Rattle.ob_unlink.specs.DeletionSteps.{AddsCells, KeepsCount, TakesMore, has_cell}
use Rattle.ob_rows.specs.RowSets.{has_key}
use Rattle.ob_rows.proofs.CallerLemmas.{both_ways, contrary, either_way, has-one}

-- only the same cell compares as equal
pub cells_exact : CmpEqualImpliesEq cell_order
cells_exact a b e =
    let behind = λ (p q : ℕ × ℕ). ordering_then (nat_cmp p.0 q.0) (nat_cmp p.1 q.1) in
    let later = exact_pairs nat_cmp nat_cmp exact_unsigned exact_unsigned in
    let first = exact_pairs nat_cmp behind exact_unsigned later (a.model.0, (a.id.0, a.field.0)) (b.model.0, (b.id.0, b.field.0)) e in
    ap (λ (p : ℕ × (ℕ × ℕ)). record { model = record { 0 = p.0 }; id = record { 0 = p.1.0 }; field = record { 0 = p.1.1 } }) first

-- ---- sets

-- what a set has is among its keys
pub cell-among : (cells : sorted.BTreeSet Cell) (cell : Cell) → (has_cell cells cell ≡ true) ↔ Contains cells.keys cell
cell-among cells cell = btree_set_contains_iff cell_order_total cells_exact cells cell

-- an empty set has nothing
pub no_cell : (cells : sorted.BTreeSet Cell) (cell : Cell) → cells.keys ≡ [] → has_cell cells cell ≡ true → ⊥
no_cell cells cell empty is =
    let none : has_cell cells cell ≡ false = ap (λ (l : List Cell). sorted.contains cell_order (record { keys = l }) cell) empty in
    both_ways (has_cell cells cell) is none

-- one key more
pub cell-one : (old new : sorted.BTreeSet Cell) (cell : Cell) → ((other : Cell) → has_cell new other ≡ cond (is_eq (cell_order cell other)) true (has_cell old other)) → AddsCells old new (λ other. other ≡ cell)
cell-one old new cell updates = has-one cell_order cell_order_total cells_exact old new cell updates

-- what an answer whether a key is new says
pub was_true : (added old : Bool) → added ≡ not old → added ≡ false → old ≡ true
was_true added true is not = refl
was_true added false is not = contrary (sym not ∙ is)

pub was_false : (added old : Bool) → added ≡ not old → added ≡ true → old ≡ false
was_false added false is so = refl
was_false added true is so = contrary (sym is ∙ so)

-- ---- rows

-- a row that wasn't taken is, and waits
pub takes-new : (old new : sorted.BTreeSet RowKey) (before now : List RowKey) (row : RowKey) → ((other : RowKey) → (has_key new other ≡ true) ↔ ((has_key old other ≡ true) ⊎ (other ≡ row))) → has_key old row ≡ false
    → now ≡ before ++ row ∷ [] → TakesMore old new before now (λ other. other ≡ row)
takes-new old new before now row taken fresh is = record {
  taken = taken;
  waiting = λ other. (to other, from other);
}
  where
    to : (other : RowKey) → Contains now other → Contains before other ⊎ ((has_key new other ≡ true) × (has_key old other ≡ false))
    to other among = elim (Contains-push_cases before row other (subst (λ (l : List RowKey). Contains l other) is among)) [
      | inl old ↦ inl old
      | inr equal ↦ inr ((taken other).1 (inr (sym equal)), sym (ap (has_key old) equal) ∙ fresh)
    ]

    with_it : (other : RowKey) → Contains before other ⊎ ((has_key new other ≡ true) × (has_key old other ≡ false)) → Contains (before ++ row ∷ []) other
    with_it other (inl old) = Contains-append_left before (row ∷ []) other old
    with_it other (inr (is, not)) = elim ((taken other).0 is) [
      | inl was ↦ both_ways (has_key old other) was not
      | inr equal ↦ subst (λ (c : RowKey). Contains (before ++ row ∷ []) c) (sym equal) (Contains-push before row)
    ]

    from : (other : RowKey) → Contains before other ⊎ ((has_key new other ≡ true) × (has_key old other ≡ false)) → Contains now other
    from other either = subst (λ (l : List RowKey). Contains l other) (sym is) (with_it other either)

-- one that was taken stays so
pub takes-again : (old new : sorted.BTreeSet RowKey) (before : List RowKey) (row : RowKey) → ((other : RowKey) → (has_key new other ≡ true) ↔ ((has_key old other ≡ true) ⊎ (other ≡ row))) → has_key old row ≡ true
    → TakesMore old new before before (λ other. other ≡ row)
takes-again old new before row taken was = record {
  taken = taken;
  waiting = λ other. (λ among. inl among, from other);
}
  where
    from : (other : RowKey) → Contains before other ⊎ ((has_key new other ≡ true) × (has_key old other ≡ false)) → Contains before other
    from other (inl old) = old
    from other (inr (is, not)) = elim ((taken other).0 is) [
      | inl had ↦ both_ways (has_key old other) had not
      | inr equal ↦ both_ways (has_key old other) (ap (has_key old) equal ∙ was) not
    ]

-- none is taken
pub takes-none : (old : sorted.BTreeSet RowKey) (before : List RowKey) (P : RowKey → Type 0) → ((row : RowKey) → P row → ⊥) → TakesMore old old before before P
takes-none old before P none = record {
  taken = λ row. (λ is. inl is, old_one row);
  waiting = λ row. (λ among. inl among, waits row);
}
  where
    old_one : (row : RowKey) → (has_key old row ≡ true) ⊎ P row → has_key old row ≡ true
    old_one row (inl is) = is
    old_one row (inr such) = absurd (none row such)

    waits : (row : RowKey) → Contains before row ⊎ ((has_key old row ≡ true) × (has_key old row ≡ false)) → Contains before row
    waits row (inl among) = among
    waits row (inr (is, not)) = both_ways (has_key old row) is not

-- some, and then others
pub takes-then : (a b c : sorted.BTreeSet RowKey) (x y z : List RowKey) (P Q : RowKey → Type 0) → TakesMore a b x y P → TakesMore b c y z Q → TakesMore a c x z (λ row. P row ⊎ Q row)
takes-then a b c x y z P Q first then = record {
  taken = λ row. (to row, from row);
  waiting = λ row. (waits row, back row);
}
  where
    to : (row : RowKey) → has_key c row ≡ true → (has_key a row ≡ true) ⊎ (P row ⊎ Q row)
    to row is = elim ((then.taken row).0 is) [
      | inr such ↦ inr (inr such)
      | inl was ↦ elim ((first.taken row).0 was) [ inl had ↦ inl had | inr such ↦ inr (inl such) ]
    ]

    from : (row : RowKey) → (has_key a row ≡ true) ⊎ (P row ⊎ Q row) → has_key c row ≡ true
    from row (inl had) = (then.taken row).1 (inl ((first.taken row).1 (inl had)))
    from row (inr (inl such)) = (then.taken row).1 (inl ((first.taken row).1 (inr such)))
    from row (inr (inr such)) = (then.taken row).1 (inr such)

    untaken : (row : RowKey) → has_key b row ≡ false → has_key a row ≡ false
    untaken row not = elim (either_way (has_key a row)) [
      | inl had ↦ both_ways (has_key b row) ((first.taken row).1 (inl had)) not
      | inr none ↦ none
    ]

    waits : (row : RowKey) → Contains z row → Contains x row ⊎ ((has_key c row ≡ true) × (has_key a row ≡ false))
    waits row among = elim ((then.waiting row).0 among) [
      | inr (is, not) ↦ inr (is, untaken row not)
      | inl was ↦ elim ((first.waiting row).0 was) [ inl had ↦ inl had | inr (is, not) ↦ inr ((then.taken row).1 (inl is), not) ]
    ]

    back : (row : RowKey) → Contains x row ⊎ ((has_key c row ≡ true) × (has_key a row ≡ false)) → Contains z row
    back row (inl had) = (then.waiting row).1 (inl ((first.waiting row).1 (inl had)))
    back row (inr (is, not)) = elim (either_way (has_key b row)) [
      | inl was ↦ (then.waiting row).1 (inl ((first.waiting row).1 (inr (was, not))))
      | inr none ↦ (then.waiting row).1 (inr (is, none))
    ]

-- the same rows, said otherwise
pub takes-as : (a b : sorted.BTreeSet RowKey) (x y : List RowKey) (P Q : RowKey → Type 0) → TakesMore a b x y P → ((row : RowKey) → P row ↔ Q row) → TakesMore a b x y Q
takes-as a b x y P Q more same = record {
  taken = λ row. (λ is. to row ((more.taken row).0 is), λ either. (more.taken row).1 (from row either));
  waiting = more.waiting;
}
  where
    to : (row : RowKey) → (has_key a row ≡ true) ⊎ P row → (has_key a row ≡ true) ⊎ Q row
    to row (inl had) = inl had
    to row (inr such) = inr ((same row).0 such)

    from : (row : RowKey) → (has_key a row ≡ true) ⊎ Q row → (has_key a row ≡ true) ⊎ P row
    from row (inl had) = inl had
    from row (inr such) = inr ((same row).1 such)

-- counts, one behind another
pub counts-none : (a : sorted.BTreeSet RowKey) (x : List RowKey) → KeepsCount a a x x
counts-none a x = (refl, omega arith)

pub counts-then : (a b c : sorted.BTreeSet RowKey) (x y z : List RowKey) → KeepsCount a b x y → KeepsCount b c y z → KeepsCount a c x z
counts-then a b c x y z first then = (omega (arith, first.0, then.0), omega (arith, first.1, then.1))

-- ---- cells

pub adds-none : (old : sorted.BTreeSet Cell) (P : Cell → Type 0) → ((cell : Cell) → P cell → ⊥) → AddsCells old old P
adds-none old P none cell = (λ is. inl is, by)
  where
    by : (has_cell old cell ≡ true) ⊎ P cell → has_cell old cell ≡ true
    by (inl is) = is
    by (inr such) = absurd (none cell such)

pub adds-then : (a b c : sorted.BTreeSet Cell) (P Q : Cell → Type 0) → AddsCells a b P → AddsCells b c Q → AddsCells a c (λ cell. P cell ⊎ Q cell)
adds-then a b c P Q first then cell = (to, from)
  where
    to : has_cell c cell ≡ true → (has_cell a cell ≡ true) ⊎ (P cell ⊎ Q cell)
    to is = elim ((then cell).0 is) [
      | inr such ↦ inr (inr such)
      | inl was ↦ elim ((first cell).0 was) [ inl had ↦ inl had | inr such ↦ inr (inl such) ]
    ]

    from : (has_cell a cell ≡ true) ⊎ (P cell ⊎ Q cell) → has_cell c cell ≡ true
    from (inl had) = (then cell).1 (inl ((first cell).1 (inl had)))
    from (inr (inl such)) = (then cell).1 (inl ((first cell).1 (inr such)))
    from (inr (inr such)) = (then cell).1 (inr such)

pub adds-as : (a b : sorted.BTreeSet Cell) (P Q : Cell → Type 0) → AddsCells a b P → ((cell : Cell) → P cell ↔ Q cell) → AddsCells a b Q
adds-as a b P Q more same cell = (λ is. to ((more cell).0 is), λ either. (more cell).1 (from either))
  where
    to : (has_cell a cell ≡ true) ⊎ P cell → (has_cell a cell ≡ true) ⊎ Q cell
    to (inl had) = inl had
    to (inr such) = inr ((same cell).0 such)

    from : (has_cell a cell ≡ true) ⊎ Q cell → (has_cell a cell ≡ true) ⊎ P cell
    from (inl had) = inl had
    from (inr such) = inr ((same cell).1 such)
