use Rattle.std.proofs.Common.{◌≡◌, ◌++◌, length}
use Rattle.ob_cache.specs.Calls.{HasTables, models_at, standpoint}
use Rattle.ob_query.specs.SearchParts.{found_ahead}
use Rattle.ob_query.specs.SearchQuestions.{OnlyAsked, distance}
use Rattle.ob_schema.specs.Tables.{Tables}
use Rattle.std.specs.Prelude.{◌≢◌, ◌<◌}
use Rattle.ob_query.proofs.searching.found.first_found.Given as goal

-- the first rows were gathered, fewer than are asked for
abbrev pub invariant-loop-ids : goal.invariant-loop-ids
invariant-loop-ids g l =
    let K = g.K.Keeper in
    record {
      asked : OnlyAsked K l.fn.engine l.engine;
      told : (tables : Tables) → HasTables (standpoint K l.fn.engine) tables
          → found_ahead (models_at (standpoint K l.fn.engine)) tables l.sought l.fn.walk ≡ l.ids.items ++ found_ahead (models_at (standpoint K l.fn.engine)) tables l.sought l.walk;
      fewer : l.sought.limit ≢ 0 → length l.ids.items < l.sought.limit;
    }

abbrev pub decreases-loop-ids : goal.decreases-loop-ids
decreases-loop-ids g l = distance l.walk
