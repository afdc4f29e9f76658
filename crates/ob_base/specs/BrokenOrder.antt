-- The order in which cells are named, and that in which the ways of being broken are.
use Rattle.std.specs.Prelude.{ℕ}
use Rattle.std.specs.Ordering.{nat_cmp, then_cmp, on}
use Rattle.std.specs.declared.cmp.Ordering.{Ordering}
use Rattle.ob_base.specs.declared.id.Cell.{Cell}
use Rattle.ob_base.specs.declared.refusal.Broken.{Broken}
use Rattle.ob_base.specs.declared.refusal.BrokenKind.{BrokenKind}
use Rattle.ob_base.specs.declared.refusal.BrokenKind.TheVariants as kind

-- by model, then by id, then by field
abbrev pub cell_order : Cell → Cell → Ordering
cell_order = then_cmp (on (λ cell. cell.model.0) nat_cmp) (then_cmp (on (λ cell. cell.id.0) nat_cmp) (on (λ cell. cell.field.0) nat_cmp))

-- the place of a kind among those that one cell may have
abbrev pub kind_place : BrokenKind → ℕ
kind_place kind.Required = 0
kind_place kind.MissingRef = 1
kind_place kind.Unique = 2
kind_place kind.Tree = 3
kind_place kind.Depth = 4
kind_place kind.Restrict = 5
kind_place kind.Check = 6
kind_place kind.Overflow = 7
kind_place kind.TooLong = 8
kind_place kind.ZeroDivisor = 9
kind_place kind.Locked = 10
kind_place kind.Fixed = 11
kind_place kind.Managed = 12
kind_place kind.Limit = 13
kind_place kind.Short = 14
kind_place kind.WrongState = 15
kind_place kind.BackorderChoice = 16
kind_place kind.RouteDepth = 17
kind_place kind.LotNeeded = 18
kind_place kind.Outside = 19

-- by cell, then by kind: the least is the first kind of the first cell
abbrev pub broken_order : Broken → Broken → Ordering
broken_order = then_cmp (on (λ broken. broken.cell) cell_order) (on (λ broken. kind_place broken.kind) nat_cmp)
