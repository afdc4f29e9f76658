-- Those found so far and those that are left are as many as before; so are those that are pending; and fewer are still to be found.
use Rattle.std.proofs.Common.{◌≡◌, ◌≤◌, ◌+◌, ◌&&◌, ◌||◌, ℕ, not, All, drop, length}
use Rattle.ob_base.specs.declared.id.RecId.{RecId}
use Rattle.ob_access.specs.Finding.{IsUpTo, unfound}
use Rattle.ob_access.specs.Groups.{has_group}
use Rattle.ob_access.proofs.groups.add_new.Given as goal

abbrev pub invariant-loop-id : goal.invariant-loop-id
invariant-loop-id l = record {
  found : (id : RecId) → (has_group l.found.keys id || has_group (drop l.id-index l.ids) id) ≡ (has_group l.fn.found.keys id || has_group l.ids id);
  pending : (id : RecId) → (has_group l.pending.items id || (has_group (drop l.id-index l.ids) id && not (has_group l.found.keys id)))
      ≡ (has_group l.fn.pending.items id || (has_group l.ids id && not (has_group l.fn.found.keys id)));
  fewer : (count : ℕ) → All (IsUpTo count) l.ids → unfound count l.found.keys + length l.pending.items ≤ unfound count l.fn.found.keys + length l.fn.pending.items;
}
