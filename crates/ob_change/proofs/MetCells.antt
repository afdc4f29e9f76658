-- Cells that are gathered one after another, each once: each that was met is listed.
use Rattle.std.proofs.Common.{◌≡◌, ◌⊎◌, ◌↔◌, ◌+◌, ◌<◌, inl, inr, ℕ, Bool, true, false, cond, not, List, get_or, length, take, refl, sym, ap, subst, ◌∙◌}
use Rattle.std.specs.Prelude.{Contains}
use Rattle.std.specs.Ordering.{is_eq, nat_cmp, ordering_then}
use Rattle.std.specs.BTreeSet as sorted
use Rattle.std.proofs.lemmas.Map.Lookups.{CmpEqualImpliesEq, exact_pairs, exact_unsigned}
use Rattle.std.proofs.lemmas.Map.Views.{btree_set_contains_iff, tells_apart}
use Rattle.ob_base.proofs.CallerLemmas.{cell_order_total}
use Rattle.ob_base.specs.BrokenOrder.{cell_order}
use Rattle.ob_base.specs.declared.id.Cell.{Cell}
use Rattle.ob_change.proofs.Gaining.{taken_before, taken_cases, taken_last}
use Rattle.ob_change.specs.EditedSteps.{Gains}

-- only the same cell compares as equal
pub cells_exact : CmpEqualImpliesEq cell_order
cells_exact a b e =
    let behind = λ (p q : ℕ × ℕ). ordering_then (nat_cmp p.0 q.0) (nat_cmp p.1 q.1) in
    let later = exact_pairs nat_cmp nat_cmp exact_unsigned exact_unsigned in
    let first = exact_pairs nat_cmp behind exact_unsigned later (a.model.0, (a.id.0, a.field.0)) (b.model.0, (b.id.0, b.field.0)) e in
    ap (λ (p : ℕ × (ℕ × ℕ)). record { model = record { 0 = p.0 }; id = record { 0 = p.1.0 }; field = record { 0 = p.1.1 } }) first

-- each cell that was met is listed
abbrev pub AreListed : sorted.BTreeSet Cell → List Cell → Type 0
AreListed met once = (other : Cell) → Contains met.keys other → Contains once other

-- these are the cells of the other list
abbrev pub AreSame : List Cell → List Cell → Type 0
AreSame once cells = (cell : Cell) → Contains once cell ↔ Contains cells cell

-- ---- one cell more

module _ (old new : sorted.BTreeSet Cell) (cell : Cell) where
  -- one that was met before is among the cells of the set
  pub was-met : (added : Bool) → added ≡ not (sorted.contains cell_order old cell) → added ≡ false → Contains old.keys cell
  was-met added is none = (btree_set_contains_iff cell_order_total cells_exact old cell).0 (by (sorted.contains cell_order old cell) (sym is ∙ none))
    where
      by : (b : Bool) → not b ≡ false → b ≡ true
      by true untrue = refl
      by false untrue = absurd cc

  module _ (updates : (other : Cell) → sorted.contains cell_order new other ≡ cond (is_eq (cell_order cell other)) true (sorted.contains cell_order old other)) where
    -- one that was met is this one, or was met before
    met-cases : (other : Cell) → Contains new.keys other → Contains old.keys other ⊎ (other ≡ cell)
    met-cases other was = by (is_eq (cell_order cell other)) refl (sym (updates other) ∙ (btree_set_contains_iff cell_order_total cells_exact new other).1 was)
      where
        by : (b : Bool) → is_eq (cell_order cell other) ≡ b → cond b true (sorted.contains cell_order old other) ≡ true → Contains old.keys other ⊎ (other ≡ cell)
        by true same _ = inr (sym (tells_apart cells_exact cell other same))
        by false _ before = inl ((btree_set_contains_iff cell_order_total cells_exact old other).0 before)

    -- so each is listed still
    pub listed-more : (once now : List Cell) → AreListed old once → Gains (λ (other : Cell). other ≡ cell) once now → AreListed new now
    listed-more once now listed gains other was = elim (met-cases other was) [
      | inl before ↦ (gains other).1 (inl (listed other before))
      | inr same ↦ (gains other).1 (inr same)
    ]

-- a list that has a cell gains nothing by it
pub one-again : (once : List Cell) (cell : Cell) → Contains once cell → Gains (λ (other : Cell). other ≡ cell) once once
one-again once cell had other = (λ one. inl one, λ either. by either)
  where
    by : Contains once other ⊎ (other ≡ cell) → Contains once other
    by (inl one) = one
    by (inr same) = subst (λ (c : Cell). Contains once c) (sym same) had

-- ---- over a list

-- the next cell
pub next-cell : (cells : List Cell) (i : ℕ) (none : Cell) (old new : List Cell) → i < length cells → AreSame old (take i cells) → Gains (λ (other : Cell). other ≡ get_or cells i none) old new → AreSame new (take (i + 1) cells)
next-cell cells i none old new low same gains cell = (to, from)
  where
    to : Contains new cell → Contains (take (i + 1) cells) cell
    to one = elim ((gains cell).0 one) [
      | inl before ↦ taken_before cells i none cell low ((same cell).0 before)
      | inr is ↦ subst (λ (c : Cell). Contains (take (i + 1) cells) c) (sym is) (taken_last cells i none low)
    ]

    from : Contains (take (i + 1) cells) cell → Contains new cell
    from one = elim (taken_cases cells i none cell low one) [
      | inl before ↦ (gains cell).1 (inl ((same cell).1 before))
      | inr is ↦ (gains cell).1 (inr (sym is))
    ]
