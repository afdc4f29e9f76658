use Rattle.std.proofs.Common.{◌≡◌}
use Rattle.ob_registry.proofs.formulas.split_path.Given as goal

abbrev pub invariant-loop-name : goal.invariant-loop-name
invariant-loop-name l = l.names.items ≡ l.yielded
