use Rattle.std.proofs.Common.{◌≡◌, false, List, map, drop}
use Rattle.ob_base.specs.declared.id.FieldNo.{FieldNo}
use Rattle.ob_base.specs.declared.id.RecId.{RecId}
use Rattle.ob_base.specs.declared.value.Value.{Value}
use Rattle.ob_group.specs.GroupParts.{aggregate_view, row_of, rows_items}
use Rattle.ob_group.specs.Groups.{TellsAmounts}
use Rattle.serde_json.specs.Data.{Members}
use Rattle.serde_json.specs.View.{members_view}
use Rattle.serde_json.specs.Written.{members_have_float}
use Rattle.ob_group.proofs.told_groups.put_amounts.Given as goal

-- with the aggregates that are left all are told
abbrev pub invariant-loop-number : goal.invariant-loop-number
invariant-loop-number l = record {
  told : (held : FieldNo → RecId → Value) → (ids : List RecId) → rows_items l.rows ≡ map (row_of held (map aggregate_view l.aggregates)) ids → (after : Members)
      → TellsAmounts held ids (map aggregate_view (drop l.number l.aggregates)) (members_view l.members.entries) after
      → TellsAmounts held ids (map aggregate_view l.aggregates) (members_view l.fn.members.entries) after;
  plain : members_have_float (members_view l.members.entries) ≡ false;
}
