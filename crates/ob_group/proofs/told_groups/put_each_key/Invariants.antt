use Rattle.std.proofs.Common.{◌≡◌, false, map, drop, length}
use Rattle.ob_group.specs.GroupParts.{grouping_view}
use Rattle.ob_group.specs.Groups.{TellsKeys}
use Rattle.ob_query.specs.declared.searching.order.Key.{Key}
use Rattle.serde_json.specs.Data.{Members}
use Rattle.serde_json.specs.View.{members_view}
use Rattle.serde_json.specs.Written.{members_have_float}
use Rattle.ob_group.proofs.told_groups.put_each_key.Given as goal

-- with the keys that are left all are told
abbrev pub invariant-loop-number : goal.invariant-loop-number
invariant-loop-number l = record {
  told : length l.keys ≡ length l.groupings → (after : Members)
      → TellsKeys (map grouping_view (drop l.number l.groupings)) (map (λ (key : Key). key.value) (drop l.number l.keys)) (members_view l.members.entries) after
      → TellsKeys (map grouping_view l.groupings) (map (λ (key : Key). key.value) l.keys) (members_view l.fn.members.entries) after;
  plain : members_have_float (members_view l.members.entries) ≡ false;
}
