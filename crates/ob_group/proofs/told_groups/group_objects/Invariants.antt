use Rattle.std.proofs.Common.{◌≡◌, ◌++◌, false, List, map, drop}
use Rattle.std.specs.Prelude.{All}
use Rattle.ob_base.specs.declared.id.FieldNo.{FieldNo}
use Rattle.ob_base.specs.declared.id.RecId.{RecId}
use Rattle.ob_base.specs.declared.value.Value.{Value}
use Rattle.ob_group.specs.GroupParts.{IsGroupOf, asked_view, own_keys}
use Rattle.ob_group.specs.Groups.{TellsEachGroup}
use Rattle.serde_json.specs.Data.{Data}
use Rattle.serde_json.specs.View.{items_of, view}
use Rattle.serde_json.specs.Written.{items_have_float}
use Rattle.ob_group.proofs.told_groups.group_objects.Given as goal

-- with the objects of the groups that are left all are told
abbrev pub invariant-loop-group : goal.invariant-loop-group
invariant-loop-group l = record {
  told : (held : FieldNo → RecId → Value) → (ids : List RecId) → All (IsGroupOf held (asked_view l.asked) ids) l.window → (ds : List Data)
      → TellsEachGroup held (asked_view l.asked) ids (map (own_keys (asked_view l.asked)) (drop l.group-index l.window)) ds
      → TellsEachGroup held (asked_view l.asked) ids (map (own_keys (asked_view l.asked)) l.window) (map view l.objects.items ++ ds);
  plain : items_have_float (items_of (map view l.objects.items)) ≡ false;
}
