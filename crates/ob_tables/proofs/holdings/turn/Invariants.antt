use Rattle.std.proofs.Common.{◌+◌, length}
use Rattle.ob_tables.proofs.Held.{Turning}
use Rattle.ob_tables.proofs.holdings.turn.Given as goal

abbrev pub decreases-loop-step : goal.decreases-loop-step
decreases-loop-step l = length l.gone + length l.come

-- without the old targets that are left, and with the new ones, the cell has the new ones
abbrev pub invariant-loop-step : goal.invariant-loop-step
invariant-loop-step l = Turning l.cell l.fn.new l.fn.holdings l.holdings l.gone l.come
