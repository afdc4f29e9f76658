use Rattle.std.proofs.Common.{◌≡◌, map, take}
use Rattle.ob_definition.specs.Members.{own_members}
use Rattle.ob_registry.specs.Modelling.{own_in}
use Rattle.ob_registry.proofs.models.own_lists.Given as goal

abbrev pub invariant-loop-place : goal.invariant-loop-place
invariant-loop-place l = own_in l.own.items ≡ map (own_members l.gathering) (take l.place l.gathering)
