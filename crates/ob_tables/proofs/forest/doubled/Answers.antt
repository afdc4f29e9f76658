use Rattle.std.proofs.Common.{◌≡◌, ◌^◌, ◌+◌, subst, arith, add-one, ℕ}
use native.Mathlib.Numerals.{unary_clauses}
use Rattle.ob_tables.specs.Trees.{AreSteps}
use Rattle.ob_tables.proofs.Stepping.{steps-doubled, steps-once}
use Rattle.ob_tables.proofs.forest.doubled.Goals as goal

power : (n : ℕ) → 2 ^ n + 2 ^ n ≡ 2 ^ (n + 1)
power n = rw add-one (simp unary_clauses (omega arith))

pub loop-done-init : goal.loop-done-init
loop-done-init c = steps-once c.args.steps.items c.requires

pub loop-done-preserved : goal.loop-done-preserved
loop-done-preserved c =
    subst (λ n. AreSteps c.args.steps.items n c.in_ok-doubled.doubled.items) (power c.loop-done.done)
    (steps-doubled c.args.steps.items c.loop-done.doubled.items c.in_ok-doubled.doubled.items (2 ^ c.loop-done.done) c.loop-done.invariant c.in_ok-doubled.ensures)
