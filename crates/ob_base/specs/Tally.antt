-- What contracts see of a counter of steps.
use Rattle.std.specs.Prelude.{ℕ, zero, suc, ◌+◌}

-- how many ticks there were, and what they made of the ledger
pub record Tally (L : Type 0) : Type 0 where
  pub count : ℕ
  pub ledger : L

-- one more tick, noted in the ledger
abbrev pub ticked : {L : Type 0} → (L → L) → Tally L → Tally L
ticked noted t = record { count = t.count + 1; ledger = noted t.ledger }

-- so many ticks more, each noted in the ledger
abbrev pub ticked_times : {L : Type 0} → ℕ → (L → L) → Tally L → Tally L
ticked_times zero noted t = t
ticked_times (suc n) noted t = ticked_times n noted (ticked noted t)
