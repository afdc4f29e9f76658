-- The ids so far, and those of the groups that are left, are all.
use Rattle.std.proofs.Common.{◌≡◌, ◌+◌, ◌++◌, ◌≤◌, All, drop}
use Rattle.ob_load.specs.Access.{group_ids}
use Rattle.ob_load.proofs.GroupIds.{ids_from}
use Rattle.ob_load.proofs.scope.Scope.group_ids.Given as goal

abbrev pub invariant-loop-place : goal.invariant-loop-place
invariant-loop-place l = (l.ids ++ ids_from l.names (l.place + 1) (drop l.place l.self.groups.now) ≡ group_ids l.self.groups.now l.names) × All (λ id. id.0 ≤ l.place) l.ids
