-- Each sign stands for its character, or one doesn't.
use Rattle.std.proofs.Common.{◌≡◌, ℕ, ◌<◌, length, get_or, false, sym, arith}
use Rattle.std.proofs.lemmas.Grind.{common_steps}
use Rattle.ob_domain.specs.Patterns.{fits}
use Rattle.ob_domain.proofs.Matching.{begins_each, begins_none}
use Rattle.ob_domain.proofs.pattern.begins.Goals as goal

pub returns-then-not-fits-clause-value : goal.returns-then-not-fits-clause-value
returns-then-not-fits-clause-value c =
    let unlike : fits (get_or c.args.pattern.now c.loop-i.i 0) (get_or c.args.text.now c.loop-i.i 0) ≡ false = grind (arith, common_steps) in
    sym (begins_none c.args.pattern.now c.args.text.now c.loop-i.i (omega arith) (omega arith) unlike)

pub returns-clause-value : goal.returns-clause-value
returns-clause-value c =
    sym (begins_each c.args.pattern.now c.args.text.now (omega arith) (λ (k : ℕ) (h : k < length c.args.pattern.now). c.loop-i.invariant k (omega arith)))
