-- Private: the parts of a fault without its spot, and the least of the faults that were found.
use Rattle.std.specs.Prelude.{◌≡◌, ◌⊎◌, ◌↔◌, ℕ, [], Bool, true, Option, Some, None, IsSomeAnd, if◌then◌else◌}
use Rattle.std.specs.Ordering.{is_lt}
use Rattle.std.specs.declared.cmp.Ordering.TheVariants.{Less}
use Rattle.ob_definition.specs.declared.fault.SchemaFault.{SchemaFault}
use Rattle.ob_definition.specs.declared.fault.SchemaFault.TheVariants as fault
use Rattle.ob_definition.specs.declared.fault.Spot.{Spot}
use Rattle.ob_definition.specs.declared.wrong.Wrong.{Wrong}
use Rattle.ob_definition.specs.declared.wrong.Wrong.TheVariants as wrong
use Rattle.ob_definition.specs.Ranking.{rank, rank_order}

-- the fault at a spot
abbrev pub fault_at : Wrong → Spot → SchemaFault
fault_at wrong.Model spot = fault.Model spot
fault_at wrong.Field spot = fault.Field spot
fault_at wrong.Kind spot = fault.Kind spot
fault_at wrong.Twice spot = fault.Twice spot
fault_at wrong.Cycle spot = fault.Cycle spot
fault_at wrong.Recursion spot = fault.Recursion spot
fault_at wrong.Path spot = fault.Path spot
fault_at wrong.Inverse spot = fault.Inverse spot
fault_at wrong.Inherits spot = fault.Inherits spot
fault_at wrong.Limit spot = fault.Limit spot
fault_at (wrong.Text why) spot = fault.Text spot why

-- whether a fault comes before the one that was found
abbrev pub is_lesser : SchemaFault → Option SchemaFault → Bool
is_lesser why None = true
is_lesser why (Some first) = is_lt (rank_order (rank why) (rank first))

-- the lesser of what was found and a fault; of one rank the first stays
abbrev pub lesser_of : Option SchemaFault → SchemaFault → Option SchemaFault
lesser_of found why = if is_lesser why found then Some why else found

-- what was found isn't after the fault
abbrev pub IsFoundBy : Option SchemaFault → SchemaFault → Type 0
IsFoundBy found why = IsSomeAnd found (λ first. rank_order (rank why) (rank first) ≡ Less → ⊥)

-- the least of what was found and of these faults
pub record Adds (Room : SchemaFault → Type 0) (old new : Option SchemaFault) : Type 0 where
  pub among : (first : SchemaFault) → new ≡ Some first → (old ≡ Some first) ⊎ Room first
  pub least : (why : SchemaFault) → Room why → IsFoundBy new why
  pub kept : (why : SchemaFault) → old ≡ Some why → IsFoundBy new why

-- what is wrong at a spot, if anything is
abbrev pub IsAt : Option Wrong → Spot → SchemaFault → Type 0
IsAt what spot why = IsSomeAnd what (λ w. why ≡ fault_at w spot)

-- the place of a fault among the variants
abbrev pub fault_variant : Wrong → ℕ
fault_variant what = (rank (fault_at what (record { entry = 0; field = [] }))).variant

-- what is told is what is wrong, and nothing is where nothing is
abbrev pub Tells : (Wrong → Type 0) → Option Wrong → Type 0
Tells IsWrong told = (w : Wrong) → (told ≡ Some w) ↔ IsWrong w

-- what is wrong in this way, as faults at a spot
abbrev pub IsFaultAt : Spot → (Wrong → Type 0) → SchemaFault → Type 0
IsFaultAt spot IsWrong why = (w : Wrong) × IsWrong w × (why ≡ fault_at w spot)
