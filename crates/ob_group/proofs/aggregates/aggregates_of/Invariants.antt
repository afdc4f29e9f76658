use Rattle.std.proofs.Common.{drop, map}
use Rattle.std.specs.Prelude.{All, option_and_then}
use Rattle.serde_json.specs.View.{view}
use Rattle.serde_json.specs.Data.{Data}
use Rattle.ob_call.specs.Forms.{fields_at}
use Rattle.ob_query.proofs.CallerLemmas.{IsKeptTo}
use Rattle.ob_group.specs.GroupForms.{Entry, entry_from}
use Rattle.ob_group.specs.GroupParts.{aggregate_view}
use Rattle.ob_group.specs.declared.aggregates.Aggregate.{Aggregate}
use Rattle.ob_schema.specs.Models.{HasField}
use Rattle.ob_group.proofs.aggregates.aggregates_of.Given as goal

-- those for which the first items stand
abbrev pub invariant-loop-item : goal.invariant-loop-item
invariant-loop-item l = record {
  kept : IsKeptTo (λ (d : Data). option_and_then (λ (e : Entry). e) (entry_from (fields_at l.schema l.model) d)) (map view l.items) (map view (drop l.item-index l.items)) (map aggregate_view l.aggregates.items);
  there : All (λ (aggregate : Aggregate). HasField l.schema l.model aggregate.field) l.aggregates.items;
}
