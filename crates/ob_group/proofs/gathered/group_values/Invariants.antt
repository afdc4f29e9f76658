use Rattle.std.proofs.Common.{◌≡◌, map, take}
use Rattle.std.specs.Prelude.{All}
use Rattle.ob_codec.specs.Held.{HasText}
use Rattle.ob_group.specs.GroupParts.{grouping_view}
use Rattle.ob_group.specs.Groups.{keys_of}
use Rattle.ob_query.specs.Search.{held_of}
use Rattle.ob_query.specs.SearchQuestions.{OnlyAsked, TellsTo}
use Rattle.ob_schema.specs.Facts.{OfAllTold}
use Rattle.ob_group.proofs.gathered.group_values.Given as goal

-- what the row holds for the first ones
abbrev pub invariant-loop-grouping : goal.invariant-loop-grouping
invariant-loop-grouping g l =
    let K = g.K.Keeper in
    record {
      asked : OnlyAsked K l.fn.engine l.engine;
      told : OfAllTold (TellsTo K l.by l.fn.engine) (λ told. l.values.items ≡ keys_of (held_of told l.model) (map grouping_view (take l.grouping-index l.groupings)) l.id);
      texts : All HasText l.values.items;
    }
