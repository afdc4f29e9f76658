-- Which calls of an object in memory fail.
use Rattle.std.specs.Prelude.{ℕ, ◌+◌, ◌-◌, ◌^◌, min, List, Contains, Bool, if◌then◌else◌}

-- the numbers of the calls that fail, counted from 1; how many calls there were, and
-- how many of them failed, both up to the greatest u64
pub record Plan : Type 0 where
  pub fail : List ℕ
  pub made : ℕ
  pub faults : ℕ

-- one more, up to the greatest u64
abbrev pub one_more : ℕ → ℕ
one_more n = min (n + 1) (2 ^ 64 - 1)

-- the next call is one of those that fail
abbrev pub FailsNext : Plan → Type 0
FailsNext plan = Contains plan.fail (plan.made + 1)

-- after a call that failed, or didn't
abbrev pub after_call : Bool → Plan → Plan
after_call failed plan = record { fail = plan.fail; made = one_more plan.made; faults = if failed then one_more plan.faults else plan.faults }
