-- The ids so far stand beside those before.
use Rattle.std.proofs.Common.{◌⊎◌, ◌↔◌, take}
use Rattle.std.specs.Prelude.{Contains}
use Rattle.ob_base.specs.declared.id.RecId.{RecId}
use Rattle.ob_trigger.proofs.walking.add_all.Given as goal

abbrev pub invariant-loop-id : goal.invariant-loop-id
invariant-loop-id l = (id : RecId) → Contains l.set.keys id ↔ (Contains l.fn.set.keys id ⊎ Contains (take l.id-index l.ids) id)
