use Rattle.std.proofs.Common.{◌+◌, ◌-◌, ◌≤◌, length, min}
use Rattle.ob_server.proofs.ReadingSteps.{IsWithinLine}
use Rattle.ob_base.specs.Limits.{max_input_bytes}
use Rattle.ob_server.proofs.lines.LineReader.advance.Given as goal

abbrev pub invariant-pieces : goal.invariant-pieces
invariant-pieces g l =
    IsWithinLine l.fn.self l.self (g.S.Source.left l.fn.input) (g.S.Source.left l.input)
    × (g.S.Source.faults l.fn.input ≤ g.S.Source.faults l.input) × (l.fn.self.lines ≤ l.fn.self.consumed)

abbrev pub decreases-pieces : goal.decreases-pieces
decreases-pieces g l = max_input_bytes + 1 - (l.self.consumed + min 1 (length l.self.held))
