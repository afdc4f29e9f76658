-- The order of faults: by entry, field and variant.
use Rattle.std.specs.Prelude.{ℕ, List, []}
use Rattle.std.specs.Cmp.Lexicographic.{slice_cmp}
use Rattle.std.specs.Ordering.{nat_cmp, then_cmp, on}
use Rattle.std.specs.declared.cmp.Ordering.{Ordering}
use Rattle.ob_definition.specs.declared.fault.SchemaFault.{SchemaFault}
use Rattle.ob_definition.specs.declared.fault.SchemaFault.TheVariants as fault
use Rattle.ob_definition.specs.declared.fault.Spot.{Spot}

-- where a fault is, and its place among the variants
pub record Rank : Type 0 where
  pub entry : ℕ
  pub field : List ℕ
  pub variant : ℕ

-- the rank of a fault at a spot
abbrev pub rank_at : Spot → ℕ → Rank
rank_at spot variant = record { entry = spot.entry; field = spot.field; variant = variant }

-- the rank of a fault: variants count in their order; want of memory comes last
abbrev pub rank : SchemaFault → Rank
rank (fault.Model spot) = rank_at spot 0
rank (fault.Field spot) = rank_at spot 1
rank (fault.Kind spot) = rank_at spot 2
rank (fault.Twice spot) = rank_at spot 3
rank (fault.Cycle spot) = rank_at spot 4
rank (fault.Recursion spot) = rank_at spot 5
rank (fault.Path spot) = rank_at spot 6
rank (fault.Inverse spot) = rank_at spot 7
rank (fault.Inherits spot) = rank_at spot 8
rank (fault.Limit spot) = rank_at spot 9
rank (fault.Text spot why) = rank_at spot 10
rank _ = record { entry = 0; field = []; variant = 11 }

-- by entry, then field by bytes, then variant in the order of declaration
abbrev pub rank_order : Rank → Rank → Ordering
rank_order = then_cmp (on (λ r. r.entry) nat_cmp) (then_cmp (on (λ r. r.field) (slice_cmp nat_cmp)) (on (λ r. r.variant) nat_cmp))
