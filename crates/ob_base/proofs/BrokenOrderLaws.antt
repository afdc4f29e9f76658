-- The orders of cells and of broken cells are total, and exact: a cell is its three numbers, and a kind its place.
use Rattle.std.proofs.Common.{◌≡◌, ◌∙◌, ℕ, List, [], ◌∷◌, get_or, refl, ap}
use Rattle.std.specs.Cmp.{IsTotalOrder}
use Rattle.std.specs.FinMap.{IsAntisymmetric, nat_cmp-IsAntisymmetric}
use Rattle.std.specs.Ordering.{nat_cmp}
use Rattle.std.proofs.lemmas.Cmp.{then_total, on_total, nat_cmp_total}
use Rattle.ob_base.specs.declared.id.Cell.{Cell}
use Rattle.ob_base.specs.declared.refusal.Broken.{Broken}
use Rattle.ob_base.specs.declared.refusal.BrokenKind.{BrokenKind}
use Rattle.ob_base.specs.declared.refusal.BrokenKind.TheVariants as kind
use Rattle.ob_base.specs.BrokenOrder.{cell_order, kind_place, broken_order}
use Rattle.ob_base.proofs.OrderLaws.{both_equal}

-- each of the three numbers is ordered totally
pub cell_order_total : IsTotalOrder cell_order
cell_order_total =
    then_total (on_total (λ (cell : Cell). cell.model.0) nat_cmp_total)
    (then_total (on_total (λ (cell : Cell). cell.id.0) nat_cmp_total) (on_total (λ (cell : Cell). cell.field.0) nat_cmp_total))

-- a cell of these three numbers
abbrev cell_from : ℕ → ℕ → ℕ → Cell
cell_from m i f = record { model = record { 0 = m }; id = record { 0 = i }; field = record { 0 = f } }

-- a cell is made again of its numbers
cell_again : (c : Cell) → cell_from c.model.0 c.id.0 c.field.0 ≡ c
cell_again c = refl

-- only the same cell compares as equal
pub cell_order_exact : IsAntisymmetric cell_order
cell_order_exact a b e =
    let first = both_equal (nat_cmp a.model.0 b.model.0) _ e in
    let then = both_equal (nat_cmp a.id.0 b.id.0) _ first.1 in
    let models : a.model.0 ≡ b.model.0 = nat_cmp-IsAntisymmetric _ _ first.0 in
    let ids : a.id.0 ≡ b.id.0 = nat_cmp-IsAntisymmetric _ _ then.0 in
    let fields : a.field.0 ≡ b.field.0 = nat_cmp-IsAntisymmetric _ _ then.1 in
    cc (cell_again a, cell_again b)

-- the kinds by their places
abbrev kinds : List BrokenKind
kinds =
    kind.Required ∷ kind.MissingRef ∷ kind.Unique ∷ kind.Tree ∷ kind.Depth ∷ kind.Restrict ∷ kind.Check ∷ kind.Overflow ∷ kind.TooLong ∷ kind.ZeroDivisor ∷
    kind.Locked ∷ kind.Fixed ∷ kind.Managed ∷ kind.Limit ∷ kind.Short ∷ kind.WrongState ∷ kind.BackorderChoice ∷ kind.RouteDepth ∷ kind.LotNeeded ∷ kind.Outside ∷ []

-- a kind is the one at its place
kind_again : (k : BrokenKind) → get_or kinds (kind_place k) kind.Outside ≡ k
kind_again = elim [ kind.Required ↦ refl | _ ↦ refl ]

-- by cell and by the place of the kind, each ordered totally
pub broken_order_total : IsTotalOrder broken_order
broken_order_total = then_total (on_total (λ (broken : Broken). broken.cell) cell_order_total) (on_total (λ (broken : Broken). kind_place broken.kind) nat_cmp_total)

-- only the same cell, broken in the same way, compares as equal
pub broken_order_exact : IsAntisymmetric broken_order
broken_order_exact a b e =
    let both = both_equal (cell_order a.cell b.cell) _ e in
    let cells : a.cell ≡ b.cell = cell_order_exact _ _ both.0 in
    let places : kind_place a.kind ≡ kind_place b.kind = nat_cmp-IsAntisymmetric _ _ both.1 in
    let kinds_are : a.kind ≡ b.kind = cc (kind_again a.kind, kind_again b.kind, places) in
    ap (λ cell. let same : Broken = record { kind = a.kind; cell = cell } in same) cells ∙ ap (λ k. let same : Broken = record { kind = k; cell = b.cell } in same) kinds_are
