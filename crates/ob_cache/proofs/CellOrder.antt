-- Cells in their order, and lists each of whose elements stands before all behind it.
use Rattle.std.proofs.Common.{◌≡◌, ◌<◌, ◌⊎◌, ◌++◌, inl, inr, Bool, true, false, List, [], ◌∷◌, refl, sym, ap, subst, ◌∙◌}
use Rattle.std.specs.Ordering.{is_eq, nat_cmp, ordering_reverse, ordering_then}
use Rattle.std.specs.declared.cmp.Ordering.{Ordering}
use Rattle.std.specs.declared.cmp.Ordering.TheVariants.{Less, Equal, Greater}
use Rattle.std.specs.Cmp.{nat_cmp_is, tied_itself}
use Rattle.std.proofs.lemmas.Cmp.{ranked}
use Rattle.ob_base.specs.BrokenOrder.{cell_order}
use Rattle.ob_base.specs.declared.id.Cell.{Cell}
use Rattle.ob_base.proofs.CallerLemmas.{cell_order_total}
use Rattle.ob_cache.specs.Reading.{EachBefore, IsOneOf, IsRowBefore}
use Rattle.ob_cache.proofs.OpenedTables.{of-each, of-one}
use Rattle.ob_cache.proofs.PagedRows.{all-appended}

-- ---- cells

-- none of two cells is before the other where that is before it
pub less-back : (a b : Cell) → cell_order a b ≡ Less → cell_order b a ≡ Less → ⊥
less-back a b one other = let both : Less ≡ ordering_reverse Less = sym one ∙ cell_order_total.antisymm a b ∙ ap ordering_reverse other in cc

-- nor is a cell before itself
pub less-itself : (a b : Cell) → a ≡ b → cell_order a b ≡ Less → ⊥
less-itself a b is less = less-back a b less (subst (λ (c : Cell). cell_order c a ≡ Less) is (subst (λ (c : Cell). cell_order a c ≡ Less) (sym is) less))

-- a cell before another: its row is before, or it is of the same row, with a lesser field
pub less-parts : (a b : Cell) → cell_order a b ≡ Less → IsRowBefore a b ⊎ ((a.model.0 ≡ b.model.0) × (a.id.0 ≡ b.id.0) × (a.field.0 < b.field.0))
less-parts a b less = by (nat_cmp a.model.0 b.model.0) (nat_cmp a.id.0 b.id.0) refl refl less
  where
    by : (m i : Ordering) → m ≡ nat_cmp a.model.0 b.model.0 → i ≡ nat_cmp a.id.0 b.id.0 → ordering_then m (ordering_then i (nat_cmp a.field.0 b.field.0)) ≡ Less
        → IsRowBefore a b ⊎ ((a.model.0 ≡ b.model.0) × (a.id.0 ≡ b.id.0) × (a.field.0 < b.field.0))
    by Less i model id is = inl (inl (ranked a.model.0 b.model.0 Less model))
    by Equal Less model id is = inl (inr (ranked a.model.0 b.model.0 Equal model, ranked a.id.0 b.id.0 Less id))
    by Equal Equal model id is = inr (ranked a.model.0 b.model.0 Equal model, ranked a.id.0 b.id.0 Equal id, ranked a.field.0 b.field.0 Less (sym is))
    by Equal Greater model id is = absurd cc
    by Greater i model id is = absurd cc

pub less-model : (a b : Cell) → a.model.0 < b.model.0 → cell_order a b ≡ Less
less-model a b low = ap (λ (o : Ordering). ordering_then o (ordering_then (nat_cmp a.id.0 b.id.0) (nat_cmp a.field.0 b.field.0))) (sym (nat_cmp_is a.model.0 b.model.0 Less low))

pub less-id : (a b : Cell) → a.model.0 ≡ b.model.0 → a.id.0 < b.id.0 → cell_order a b ≡ Less
less-id a b same low =
    ap (λ (o : Ordering). ordering_then o (ordering_then (nat_cmp a.id.0 b.id.0) (nat_cmp a.field.0 b.field.0))) (sym (nat_cmp_is a.model.0 b.model.0 Equal same))
    ∙ ap (λ (o : Ordering). ordering_then o (nat_cmp a.field.0 b.field.0)) (sym (nat_cmp_is a.id.0 b.id.0 Less low))

pub less-field : (a b : Cell) → a.model.0 ≡ b.model.0 → a.id.0 ≡ b.id.0 → a.field.0 < b.field.0 → cell_order a b ≡ Less
less-field a b same one low =
    ap (λ (o : Ordering). ordering_then o (ordering_then (nat_cmp a.id.0 b.id.0) (nat_cmp a.field.0 b.field.0))) (sym (nat_cmp_is a.model.0 b.model.0 Equal same))
    ∙ ap (λ (o : Ordering). ordering_then o (nat_cmp a.field.0 b.field.0)) (sym (nat_cmp_is a.id.0 b.id.0 Equal one))
    ∙ sym (nat_cmp_is a.field.0 b.field.0 Less low)

-- only the same cell compares as equal
pub cell-exact : (a b : Cell) → cell_order a b ≡ Equal → a ≡ b
cell-exact a b same = by (nat_cmp a.model.0 b.model.0) (nat_cmp a.id.0 b.id.0) (nat_cmp a.field.0 b.field.0) refl refl refl same
  where
    parts : a.model.0 ≡ b.model.0 → a.id.0 ≡ b.id.0 → a.field.0 ≡ b.field.0 → a ≡ b
    parts model id field = λ i. record { model = record { 0 = model i }; id = record { 0 = id i }; field = record { 0 = field i } }

    by : (m i f : Ordering) → m ≡ nat_cmp a.model.0 b.model.0 → i ≡ nat_cmp a.id.0 b.id.0 → f ≡ nat_cmp a.field.0 b.field.0 → ordering_then m (ordering_then i f) ≡ Equal → a ≡ b
    by Equal Equal Equal model id field is = parts (ranked a.model.0 b.model.0 Equal model) (ranked a.id.0 b.id.0 Equal id) (ranked a.field.0 b.field.0 Equal field)
    by Equal Equal Less model id field is = absurd cc
    by Equal Equal Greater model id field is = absurd cc
    by Equal Less f model id field is = absurd cc
    by Equal Greater f model id field is = absurd cc
    by Less i f model id field is = absurd cc
    by Greater i f model id field is = absurd cc

is_equal : (r : Ordering) → is_eq r ≡ true → r ≡ Equal
is_equal Less is = cc
is_equal Equal is = refl
is_equal Greater is = cc

-- another compares as another
pub cell-other : (a b : Cell) → (a ≡ b → ⊥) → is_eq (cell_order a b) ≡ false
cell-other a b apart = by (is_eq (cell_order a b)) refl
  where
    by : (t : Bool) → is_eq (cell_order a b) ≡ t → t ≡ false
    by true same = absurd (apart (cell-exact a b (is_equal (cell_order a b) same)))
    by false same = refl

pub cell-same : (a b : Cell) → is_eq (cell_order a b) ≡ true → a ≡ b
cell-same a b same = cell-exact a b (is_equal (cell_order a b) same)

pub cell-itself : (a : Cell) → is_eq (cell_order a a) ≡ true
cell-itself a = ap is_eq (tied_itself cell_order_total a)

-- ---- lists

pub one-left : {X : Type 0} (x : X) (xs ys : List X) → IsOneOf x xs → IsOneOf x (xs ++ ys)
one-left x [] ys one = absurd one
one-left x (y ∷ xs) ys (inl is) = inl is
one-left x (y ∷ xs) ys (inr later) = inr (one-left x xs ys later)

-- a list behind another
pub rising-appended : {X : Type 0} (Before : X → X → Type 0) (xs ys : List X) → EachBefore Before xs → EachBefore Before ys → ((x y : X) → IsOneOf x xs → IsOneOf y ys → Before x y) → EachBefore Before (xs ++ ys)
rising-appended Before [] ys rising later across = later
rising-appended Before (x ∷ xs) ys rising later across =
    (all-appended (Before x) xs ys rising.0 (of-each (Before x) ys (λ y one. across x y (inl refl) one)), rising-appended Before xs ys rising.1 later (λ a b one other. across a b (inr one) other))

-- where one of a list stands that falls apart at another
pub placed : {X : Type 0} (Before : X → X → Type 0) (front : List X) (s : X) (rest : List X) (t : X) → EachBefore Before (front ++ s ∷ rest) → IsOneOf t (front ++ s ∷ rest) → IsOneOf t front ⊎ ((t ≡ s) ⊎ Before s t)
placed Before [] s rest t rising (inl is) = inr (inl is)
placed Before [] s rest t rising (inr later) = inr (inr (of-one (Before s) rest t rising.0 later))
placed {X = X} Before (x ∷ front) s rest t rising (inl is) = inl (inl is)
placed {X = X} Before (x ∷ front) s rest t rising (inr later) = by (placed Before front s rest t rising.1 later)
  where
    by : IsOneOf t front ⊎ ((t ≡ s) ⊎ Before s t) → IsOneOf t (x ∷ front) ⊎ ((t ≡ s) ⊎ Before s t)
    by (inl here) = inl (inr here)
    by (inr other) = inr other
