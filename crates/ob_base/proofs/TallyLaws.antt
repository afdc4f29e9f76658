-- What so many ticks make of a count, and of a ledger that counts.
use Rattle.std.proofs.Common.{◌≡◌, ℕ, zero, suc, ◌+◌, ◌≤◌, min, arith}
use Rattle.ob_base.specs.Tally.{Tally, ticked, ticked_times}

-- so many ticks add that number to the count
pub ticked_times-count : {L : Type 0} (noted : L → L) (n : ℕ) (t : Tally L) → (ticked_times n noted t).count ≡ t.count + n
ticked_times-count noted zero t = omega arith
ticked_times-count noted (suc n) t = let rest = ticked_times-count noted n (ticked noted t) in omega arith

-- what each note does to a number of the ledger, many notes do in turn: it counts up to the top
pub ticked_times-total : {L : Type 0} (noted : L → L) (total : L → ℕ) (top : ℕ) → ((l : L) → total (noted l) ≡ min (total l + 1) top) → (n : ℕ) (t : Tally L) → total t.ledger ≤ top
    → total (ticked_times n noted t).ledger ≡ min (total t.ledger + n) top
ticked_times-total noted total top by_one zero t below = grind (arith)
ticked_times-total noted total top by_one (suc n) t below =
    let one = by_one t.ledger in
    let within : total (noted t.ledger) ≤ top = grind (arith, one) in
    let rest = ticked_times-total noted total top by_one n (ticked noted t) within in
    grind (arith, one, rest)
