use Rattle.std.proofs.Common.{◌≡◌, ◌≤◌}
use Rattle.ob_cache.specs.Calls.{HasTables, models_at, standpoint}
use Rattle.ob_query.specs.SearchParts.{found_ahead}
use Rattle.ob_query.specs.SearchQuestions.{OnlyAsked, distance}
use Rattle.ob_schema.specs.Tables.{Tables}
use Rattle.ob_query.proofs.searching.found.next_found.Given as goal

-- the rows that were passed over aren't found
abbrev pub invariant-loop-id : goal.invariant-loop-id
invariant-loop-id g l =
    let K = g.K.Keeper in
    record {
      asked : OnlyAsked K l.fn.engine l.engine;
      told : (tables : Tables) → HasTables (standpoint K l.fn.engine) tables
          → found_ahead (models_at (standpoint K l.fn.engine)) tables l.sought l.fn.walk ≡ found_ahead (models_at (standpoint K l.fn.engine)) tables l.sought l.walk;
      nearer : distance l.walk ≤ distance l.fn.walk;
    }

abbrev pub decreases-loop-id : goal.decreases-loop-id
decreases-loop-id g l = distance l.walk
