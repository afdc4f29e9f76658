use Rattle.std.proofs.Common.{◌≡◌, ◌++◌, map, take}
use Rattle.toml.specs.View.{view}
use Rattle.ob_load.specs.Access.{name_of}
use Rattle.ob_load.proofs.policy.add_group_names.Given as goal

abbrev pub invariant-loop-entry : goal.invariant-loop-entry
invariant-loop-entry l = l.names ≡ l.fn.names ++ map (λ entry. name_of l.owner (view entry)) (take l.entry-index l.entry-items)
