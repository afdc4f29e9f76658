-- Cells that are marked one after another, and those of them that wait.
use Rattle.std.proofs.Common.{◌≡◌, ◌⊎◌, ◌↔◌, ◌+◌, ◌<◌, inl, inr, ℕ, Bool, true, false, cond, not, List, [], ◌∷◌, ◌++◌, length, get_or, take, Option, refl, sym, ap, subst, ◌∙◌, arith}
use Rattle.std.specs.Prelude.{Any, Contains}
use Rattle.std.specs.Ordering.{is_eq, nat_cmp, ordering_then}
use Rattle.std.specs.BTreeSet as sorted
use Rattle.std.specs.Cmp.{tied_itself}
use Rattle.std.proofs.lemmas.List.Elements.{Contains-append_left, Contains-push, Contains-push_cases}
use Rattle.std.proofs.lemmas.Map.Lookups.{CmpEqualImpliesEq, exact_pairs, exact_unsigned}
use Rattle.std.proofs.lemmas.Map.Views.{btree_set_contains_iff, tells_apart}
use Rattle.ob_base.specs.BrokenOrder.{cell_order}
use Rattle.ob_base.specs.declared.id.Cell.{Cell}
use Rattle.ob_base.proofs.CallerLemmas.{cell_order_total}
use Rattle.ob_base.specs.declared.id.RecId.{RecId}
use Rattle.ob_base.specs.declared.value.Value.{Value}
use Rattle.ob_schema.specs.Models.{FieldHas}
use Rattle.ob_schema.specs.ReadCells.{cell_at}
use Rattle.ob_schema.specs.declared.info.ModelInfo.{ModelInfo}
use Rattle.ob_schema.specs.declared.info.Step.{Step}
use Rattle.ob_schema.proofs.CallerLemmas.{Any-none, contains-none}
use Rattle.ob_trigger.specs.Readers.{IsLed, ReadsBy}
use Rattle.ob_trigger.specs.declared.index.Reader.{Reader}
use Rattle.ob_trigger.specs.Affected.{IsComputedField, cell_step}
use Rattle.ob_trigger.specs.Marks.{HasMark, KeepsCount, MarksComputed, MarksMore, has_mark}
use Rattle.ob_trigger.proofs.Lists.{any_more, both_ways, contains-more, contrary}

-- only the same cell compares as equal
pub cells_exact : CmpEqualImpliesEq cell_order
cells_exact a b e =
    let behind = λ (p q : ℕ × ℕ). ordering_then (nat_cmp p.0 q.0) (nat_cmp p.1 q.1) in
    let later = exact_pairs nat_cmp nat_cmp exact_unsigned exact_unsigned in
    let first = exact_pairs nat_cmp behind exact_unsigned later (a.model.0, (a.id.0, a.field.0)) (b.model.0, (b.id.0, b.field.0)) e in
    ap (λ (p : ℕ × (ℕ × ℕ)). record { model = record { 0 = p.0 }; id = record { 0 = p.1.0 }; field = record { 0 = p.1.1 } }) first

-- a cell is marked or it isn't
pub marked_or_not : (marked : sorted.BTreeSet Cell) (cell : Cell) → HasMark marked cell ⊎ (has_mark marked cell ≡ false)
marked_or_not marked cell = by (has_mark marked cell)
  where
    by : (b : Bool) → (b ≡ true) ⊎ (b ≡ false)
    by true = inl refl
    by false = inr refl

-- what is marked is among the cells of the set
pub marked-among : (marked : sorted.BTreeSet Cell) (cell : Cell) → HasMark marked cell ↔ Contains marked.keys cell
marked-among marked cell = btree_set_contains_iff cell_order_total cells_exact marked cell

-- nothing is marked in an empty set
pub none_marked : (marked : sorted.BTreeSet Cell) (cell : Cell) → marked.keys ≡ [] → HasMark marked cell → ⊥
none_marked marked cell empty is =
    let none : has_mark marked cell ≡ false = ap (λ (l : List Cell). sorted.contains cell_order (record { keys = l }) cell) empty in
    both_ways (has_mark marked cell) is none

-- one more is marked
pub marked-one : (old new : sorted.BTreeSet Cell) (cell : Cell) → ((other : Cell) → has_mark new other ≡ cond (is_eq (cell_order cell other)) true (has_mark old other))
    → (other : Cell) → HasMark new other ↔ (HasMark old other ⊎ (other ≡ cell))
marked-one old new cell updates other = by (is_eq (cell_order cell other)) refl (updates other)
  where
    by : (b : Bool) → is_eq (cell_order cell other) ≡ b → has_mark new other ≡ cond b true (has_mark old other) → HasMark new other ↔ (HasMark old other ⊎ (other ≡ cell))
    by true same is = (λ marked. inr (sym (tells_apart cells_exact cell other same)), λ either. is)
    by false apart is = (λ marked. inl (sym is ∙ marked), λ either. kept either)
      where
        kept : HasMark old other ⊎ (other ≡ cell) → HasMark new other
        kept (inl marked) = is ∙ marked
        kept (inr equal) = both_ways (is_eq (cell_order cell other)) (ap (λ (c : Cell). is_eq (cell_order cell c)) equal ∙ ap is_eq (tied_itself cell_order_total cell)) apart

-- a cell that wasn't marked is, and waits
pub marks-new : (old new : sorted.BTreeSet Cell) (before now : List Cell) (cell : Cell) → ((other : Cell) → HasMark new other ↔ (HasMark old other ⊎ (other ≡ cell))) → has_mark old cell ≡ false
    → now ≡ before ++ cell ∷ [] → MarksMore old new before now (λ other. other ≡ cell)
marks-new old new before now cell marked fresh is = record {
  marked = marked;
  waiting = λ other. (to other, from other);
}
  where
    to : (other : Cell) → Contains now other → Contains before other ⊎ (HasMark new other × (has_mark old other ≡ false))
    to other among = elim (Contains-push_cases before cell other (subst (λ (l : List Cell). Contains l other) is among)) [
      | inl old ↦ inl old
      | inr equal ↦ inr ((marked other).1 (inr (sym equal)), sym (ap (has_mark old) equal) ∙ fresh)
    ]

    with_it : (other : Cell) → Contains before other ⊎ (HasMark new other × (has_mark old other ≡ false)) → Contains (before ++ cell ∷ []) other
    with_it other (inl old) = Contains-append_left before (cell ∷ []) other old
    with_it other (inr (is, not)) = elim ((marked other).0 is) [
      | inl was ↦ both_ways (has_mark old other) was not
      | inr equal ↦ subst (λ (c : Cell). Contains (before ++ cell ∷ []) c) (sym equal) (Contains-push before cell)
    ]

    from : (other : Cell) → Contains before other ⊎ (HasMark new other × (has_mark old other ≡ false)) → Contains now other
    from other either = subst (λ (l : List Cell). Contains l other) (sym is) (with_it other either)

-- one that was marked stays so
pub marks-again : (old new : sorted.BTreeSet Cell) (before : List Cell) (cell : Cell) → ((other : Cell) → HasMark new other ↔ (HasMark old other ⊎ (other ≡ cell))) → HasMark old cell
    → MarksMore old new before before (λ other. other ≡ cell)
marks-again old new before cell marked was = record {
  marked = marked;
  waiting = λ other. (λ among. inl among, from other);
}
  where
    from : (other : Cell) → Contains before other ⊎ (HasMark new other × (has_mark old other ≡ false)) → Contains before other
    from other (inl old) = old
    from other (inr (is, not)) = elim ((marked other).0 is) [
      | inl had ↦ both_ways (has_mark old other) had not
      | inr equal ↦ both_ways (has_mark old other) (ap (has_mark old) equal ∙ was) not
    ]

-- none is marked
pub marks-none : (old : sorted.BTreeSet Cell) (before : List Cell) (P : Cell → Type 0) → ((cell : Cell) → P cell → ⊥) → MarksMore old old before before P
marks-none old before P none = record {
  marked = λ cell. (λ is. inl is, old_one cell);
  waiting = λ cell. (λ among. inl among, waits cell);
}
  where
    old_one : (cell : Cell) → HasMark old cell ⊎ P cell → HasMark old cell
    old_one cell (inl is) = is
    old_one cell (inr such) = absurd (none cell such)

    waits : (cell : Cell) → Contains before cell ⊎ (HasMark old cell × (has_mark old cell ≡ false)) → Contains before cell
    waits cell (inl among) = among
    waits cell (inr (is, not)) = both_ways (has_mark old cell) is not

-- some, and then others
pub marks-then : (a b c : sorted.BTreeSet Cell) (x y z : List Cell) (P Q : Cell → Type 0) → MarksMore a b x y P → MarksMore b c y z Q → MarksMore a c x z (λ cell. P cell ⊎ Q cell)
marks-then a b c x y z P Q first then = record {
  marked = λ cell. (to cell, from cell);
  waiting = λ cell. (waits cell, back cell);
}
  where
    to : (cell : Cell) → HasMark c cell → HasMark a cell ⊎ (P cell ⊎ Q cell)
    to cell is = elim ((then.marked cell).0 is) [
      | inr such ↦ inr (inr such)
      | inl was ↦ elim ((first.marked cell).0 was) [ inl had ↦ inl had | inr such ↦ inr (inl such) ]
    ]

    from : (cell : Cell) → HasMark a cell ⊎ (P cell ⊎ Q cell) → HasMark c cell
    from cell (inl had) = (then.marked cell).1 (inl ((first.marked cell).1 (inl had)))
    from cell (inr (inl such)) = (then.marked cell).1 (inl ((first.marked cell).1 (inr such)))
    from cell (inr (inr such)) = (then.marked cell).1 (inr such)

    unmarked : (cell : Cell) → has_mark b cell ≡ false → has_mark a cell ≡ false
    unmarked cell not = elim (marked_or_not a cell) [
      | inl had ↦ both_ways (has_mark b cell) ((first.marked cell).1 (inl had)) not
      | inr none ↦ none
    ]

    waits : (cell : Cell) → Contains z cell → Contains x cell ⊎ (HasMark c cell × (has_mark a cell ≡ false))
    waits cell among = elim ((then.waiting cell).0 among) [
      | inr (is, not) ↦ inr (is, unmarked cell not)
      | inl was ↦ elim ((first.waiting cell).0 was) [ inl had ↦ inl had | inr (is, not) ↦ inr ((then.marked cell).1 (inl is), not) ]
    ]

    back : (cell : Cell) → Contains x cell ⊎ (HasMark c cell × (has_mark a cell ≡ false)) → Contains z cell
    back cell (inl had) = (then.waiting cell).1 (inl ((first.waiting cell).1 (inl had)))
    back cell (inr (is, not)) = elim (marked_or_not b cell) [
      | inl was ↦ (then.waiting cell).1 (inl ((first.waiting cell).1 (inr (was, not))))
      | inr none ↦ (then.waiting cell).1 (inr (is, none))
    ]

-- the same cells, said otherwise
pub marks-as : (a b : sorted.BTreeSet Cell) (x y : List Cell) (P Q : Cell → Type 0) → MarksMore a b x y P → ((cell : Cell) → P cell ↔ Q cell) → MarksMore a b x y Q
marks-as a b x y P Q more same = record {
  marked = λ cell. (λ is. to cell ((more.marked cell).0 is), λ either. (more.marked cell).1 (from cell either));
  waiting = more.waiting;
}
  where
    to : (cell : Cell) → HasMark a cell ⊎ P cell → HasMark a cell ⊎ Q cell
    to cell (inl had) = inl had
    to cell (inr such) = inr ((same cell).0 such)

    from : (cell : Cell) → HasMark a cell ⊎ Q cell → HasMark a cell ⊎ P cell
    from cell (inl had) = inl had
    from cell (inr such) = inr ((same cell).1 such)

-- counts, one behind another
pub counts-then : (a b c : sorted.BTreeSet Cell) (x y z : List Cell) → KeepsCount a b x y → KeepsCount b c y z → KeepsCount a c x z
counts-then a b c x y z first then = (omega (arith, first.0, then.0), omega (arith, first.1, then.1))

-- what an answer whether a cell is new says
pub was_true : (added old : Bool) → added ≡ not old → added ≡ false → old ≡ true
was_true added true is not = refl
was_true added false is not = contrary (sym not ∙ is)

pub was_false : (added old : Bool) → added ≡ not old → added ≡ true → old ≡ false
was_false added false is so = refl
was_false added true is so = contrary (sym is ∙ so)

-- cells of a field in rows, one more at a time
pub cells-more : (field : Step) (ids : List RecId) (i : ℕ) (d : RecId) → i < length ids → (cell : Cell)
    → (((cell ≡ cell_at field cell.id) × Contains (take i ids) cell.id) ⊎ (cell ≡ cell_at field (get_or ids i d))) ↔ ((cell ≡ cell_at field cell.id) × Contains (take (i + 1) ids) cell.id)
cells-more field ids i d within cell = (to, from)
  where
    to : ((cell ≡ cell_at field cell.id) × Contains (take i ids) cell.id) ⊎ (cell ≡ cell_at field (get_or ids i d)) → (cell ≡ cell_at field cell.id) × Contains (take (i + 1) ids) cell.id
    to (inl (is, among)) = (is, (contains-more ids i d cell.id within).1 (inl among))
    to (inr is) =
        let row : get_or ids i d ≡ cell.id = sym (ap (λ (c : Cell). c.id) is) in
        (is ∙ ap (cell_at field) row, (contains-more ids i d cell.id within).1 (inr row))

    from : (cell ≡ cell_at field cell.id) × Contains (take (i + 1) ids) cell.id → ((cell ≡ cell_at field cell.id) × Contains (take i ids) cell.id) ⊎ (cell ≡ cell_at field (get_or ids i d))
    from (is, among) = elim ((contains-more ids i d cell.id within).0 among) [
      | inl front ↦ inl (is, front)
      | inr row ↦ inr (is ∙ ap (cell_at field) (sym row))
    ]

pub cells-none : (field : Step) (cell : Cell) → (cell ≡ cell_at field cell.id) × Contains [] cell.id → ⊥
cells-none field cell (is, among) = contains-none cell.id among

-- readers, one more at a time
pub by-more : (held : Cell → Option Value) (id : RecId) (readers : List Reader) (i : ℕ) (reader : Reader) → i < length readers → reader ≡ get_or readers i reader → (cell : Cell)
    → (Any (λ r. ReadsBy held id r cell) (take i readers) ⊎ ReadsBy held id reader cell) ↔ Any (λ r. ReadsBy held id r cell) (take (i + 1) readers)
by-more held id readers i reader within is cell =
    let more = any_more (λ (r : Reader). ReadsBy held id r cell) readers i reader within in (
      λ either. more.0 (next either),
      λ any. back (more.1 any),
    )
  where
    next : Any (λ r. ReadsBy held id r cell) (take i readers) ⊎ ReadsBy held id reader cell → Any (λ r. ReadsBy held id r cell) (take i readers) ⊎ ReadsBy held id (get_or readers i reader) cell
    next (inl any) = inl any
    next (inr by) = inr (subst (λ (r : Reader). ReadsBy held id r cell) is by)

    back : Any (λ r. ReadsBy held id r cell) (take i readers) ⊎ ReadsBy held id (get_or readers i reader) cell → Any (λ r. ReadsBy held id r cell) (take i readers) ⊎ ReadsBy held id reader cell
    back (inl any) = inl any
    back (inr by) = inr (subst (λ (r : Reader). ReadsBy held id r cell) (sym is) by)

pub counts-none : (a : sorted.BTreeSet Cell) (x : List Cell) → KeepsCount a a x x
counts-none a x = (refl, omega arith)

-- the cells of a reader in the rows from which its steps lead to a row are those that read it
pub rows-read : (held : Cell → Option Value) (id : RecId) (reader : Reader) (rows : List RecId) (steps : List Step) → steps ≡ reader.front → ((row : RecId) → Contains rows row ↔ IsLed held steps row id) → (cell : Cell)
    → ((cell ≡ cell_at reader.computed cell.id) × Contains rows cell.id) ↔ ReadsBy held id reader cell
rows-read held id reader rows steps is led cell = (
  λ such. (such.0, subst (λ (l : List Step). IsLed held l cell.id id) is ((led cell.id).0 such.1)),
  λ such. (such.0, (led cell.id).1 (subst (λ (l : List Step). IsLed held l cell.id id) (sym is) such.1)),
)

-- and they are of its field
pub rows-computed : (field : Step) (old new : sorted.BTreeSet Cell) (before now : List Cell) (P : Cell → Type 0) → MarksMore old new before now (λ cell. (cell ≡ cell_at field cell.id) × P cell)
    → (cell : Cell) → HasMark new cell → HasMark old cell ⊎ (cell_step cell ≡ field)
rows-computed field old new before now P more cell marks = elim ((more.marked cell).0 marks) [ inl had ↦ inl had | inr such ↦ inr (ap cell_step such.0) ]

-- marks of a computed field, behind marks of computed fields
pub computed-then : (models : List ModelInfo) (a b c : sorted.BTreeSet Cell) (at : Step) → FieldHas models IsComputedField at.model at.field → MarksComputed models a b
    → ((cell : Cell) → HasMark c cell → HasMark b cell ⊎ (cell_step cell ≡ at)) → MarksComputed models a c
computed-then models a b c at has before then cell marks = elim (then cell marks) [
  | inl was ↦ before cell was
  | inr is ↦ inr (subst (λ (s : Step). FieldHas models IsComputedField s.model s.field) (sym is) has)
]

pub by-none : (held : Cell → Option Value) (id : RecId) (cell : Cell) → Any (λ r. ReadsBy held id r cell) [] → ⊥
by-none held id cell any = Any-none (λ (r : Reader). ReadsBy held id r cell) any
