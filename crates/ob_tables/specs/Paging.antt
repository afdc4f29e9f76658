-- What a page of rows has.
use Rattle.std.specs.Prelude.{ℕ, List, filter, take, nat_lt}
use Rattle.ob_base.specs.declared.id.RecId.{RecId}

-- the first ids above one, at most so many
abbrev pub first_above : RecId → ℕ → List RecId → List RecId
first_above after most ids = take most (filter (λ id. nat_lt after.0 id.0) ids)
