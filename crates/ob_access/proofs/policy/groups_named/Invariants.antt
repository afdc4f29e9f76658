-- The groups that the names so far name, and those of the rest, are all.
use Rattle.std.proofs.Common.{◌≡◌, ◌++◌, drop}
use Rattle.std.specs.List.{filter_map}
use Rattle.ob_access.specs.Policies.{group_named}
use Rattle.ob_access.proofs.policy.groups_named.Given as goal

abbrev pub invariant-loop-name : goal.invariant-loop-name
invariant-loop-name l = l.ids ++ filter_map (group_named l.groups) (drop l.name-index l.names) ≡ filter_map (group_named l.groups) l.names
