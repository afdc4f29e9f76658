-- Private: which groups are still to be found.
use Rattle.std.specs.Prelude.{◌≤◌, ◌+◌, ℕ, zero, suc, List, if◌then◌else◌}
use Rattle.ob_base.specs.declared.id.RecId.{RecId}
use Rattle.ob_access.specs.Groups.{has_group}

-- one of the first so many groups
abbrev pub IsUpTo : ℕ → RecId → Type 0
IsUpTo count id = (1 ≤ id.0) × (id.0 ≤ count)

-- how many of the first so many groups aren't among those that were found
abbrev pub unfound : ℕ → List RecId → ℕ
unfound zero found = 0
unfound (suc n) found = (if has_group found (record { 0 = suc n }) then 0 else 1) + unfound n found
