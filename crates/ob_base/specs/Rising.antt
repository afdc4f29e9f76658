-- Ids that rise.
use Rattle.std.specs.Prelude.{List, map}
use Rattle.std.specs.List.Sorted.{IsStrictlyIncreasing}
use Rattle.ob_base.specs.declared.id.RecId.{RecId}

-- each id is below the next
abbrev pub IsRising : List RecId → Type 0
IsRising ids = IsStrictlyIncreasing (map (λ id. id.0) ids)
