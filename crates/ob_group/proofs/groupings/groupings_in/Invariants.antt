use Rattle.std.proofs.Common.{drop, map}
use Rattle.std.specs.Prelude.{All}
use Rattle.serde_json.specs.View.{view}
use Rattle.ob_call.specs.Forms.{fields_at}
use Rattle.ob_query.proofs.CallerLemmas.{IsKeptTo}
use Rattle.ob_group.specs.GroupForms.{grouping_from}
use Rattle.ob_group.specs.GroupParts.{grouping_view}
use Rattle.ob_group.specs.declared.groupings.Grouping.{Grouping}
use Rattle.ob_schema.specs.Models.{HasField}
use Rattle.ob_group.proofs.groupings.groupings_in.Given as goal

-- those for which the first items stand
abbrev pub invariant-loop-item : goal.invariant-loop-item
invariant-loop-item l = record {
  kept : IsKeptTo (grouping_from (fields_at l.schema l.model)) (map view l.items) (map view (drop l.item-index l.items)) (map grouping_view l.groupings.items);
  there : All (λ (grouping : Grouping). HasField l.schema l.model grouping.field) l.groupings.items;
}
