use Rattle.std.proofs.Common.{◌≡◌, map, take}
use Rattle.std.specs.Prelude.{All}
use Rattle.ob_codec.specs.Held.{HasText}
use Rattle.ob_group.specs.GroupParts.{aggregate_view, row_of}
use Rattle.ob_query.specs.Search.{held_of}
use Rattle.ob_query.specs.SearchQuestions.{OnlyAsked, TellsTo}
use Rattle.ob_schema.specs.Facts.{OfAllTold}
use Rattle.ob_group.proofs.gathered.row_values.Given as goal

-- what the row holds for the first ones
abbrev pub invariant-loop-aggregate : goal.invariant-loop-aggregate
invariant-loop-aggregate g l =
    let K = g.K.Keeper in
    record {
      asked : OnlyAsked K l.fn.engine l.engine;
      told : OfAllTold (TellsTo K l.by l.fn.engine) (λ told. l.values.items ≡ row_of (held_of told l.model) (map aggregate_view (take l.aggregate-index l.aggregates)) l.id);
    }
