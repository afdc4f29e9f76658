-- The parts and the rest that are left are worth what the whole is, and are no longer than it.
use Rattle.std.proofs.Common.{◌≡◌, ◌≤◌, length}
use Rattle.ob_domain.specs.Patterns.{matches, some_rest}
use Rattle.ob_domain.proofs.pattern.matches_behind.Given as goal

abbrev pub invariant-loop-run : goal.invariant-loop-run
invariant-loop-run l = record {
  worth : some_rest (matches l.fn.pattern) l.fn.text ≡ some_rest (matches l.parts) l.rest;
  parts : length l.parts ≤ length l.fn.pattern;
  rest : length l.rest ≤ length l.fn.text;
}

abbrev pub decreases-loop-run : goal.decreases-loop-run
decreases-loop-run l = length l.parts
