use Rattle.std.proofs.Common.{◌≡◌, ◌+◌, length}
use Rattle.ob_cache.specs.Calls.{HasTables, models_at, standpoint}
use Rattle.ob_query.specs.SearchParts.{found_ahead, found_by}
use Rattle.ob_query.specs.SearchQuestions.{OnlyAsked}
use Rattle.ob_schema.specs.Tables.{Tables}
use Rattle.ob_query.proofs.searching.found.count_found.Given as goal

-- so many rows were counted
abbrev pub invariant-loop-count : goal.invariant-loop-count
invariant-loop-count g l =
    let K = g.K.Keeper in
    record {
      asked : OnlyAsked K l.fn.engine l.engine;
      told : (tables : Tables) → HasTables (standpoint K l.fn.engine) tables
          → length (found_by (models_at (standpoint K l.fn.engine)) tables l.sought) ≡ l.count + length (found_ahead (models_at (standpoint K l.fn.engine)) tables l.sought l.walk);
    }
