-- How counts of faults rise.
use Rattle.std.specs.Prelude.{ℕ, Bool, if◌then◌else◌}
use Rattle.ob_io.specs.Plan.{one_more}

-- the count after a call that failed, or didn't
abbrev pub count_after : Bool → ℕ → ℕ
count_after failed faults = if failed then one_more faults else faults
