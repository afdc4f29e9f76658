use Rattle.std.proofs.Common.{◌≡◌, ◌++◌, map}
use Rattle.ob_cache.specs.Calls.{HasTables, models_at, standpoint}
use Rattle.ob_query.specs.SearchParts.{found_ahead, told_to}
use Rattle.ob_query.specs.SearchQuestions.{OnlyAsked, distance}
use Rattle.ob_schema.specs.Tables.{Tables}
use Rattle.ob_query.specs.Search.{held_of}
use Rattle.ob_query.specs.SearchKeys.{AreKeyed}
use Rattle.ob_query.specs.declared.searching.order.Ranked.{Ranked}
use Rattle.ob_query.proofs.searching.found.ranked_found.Given as goal

-- the first rows were gathered, each with its keys
abbrev pub invariant-loop-rows : goal.invariant-loop-rows
invariant-loop-rows g l =
    let K = g.K.Keeper in
    record {
      asked : OnlyAsked K l.fn.engine l.engine;
      told : (tables : Tables) → HasTables (standpoint K l.fn.engine) tables
          → found_ahead (models_at (standpoint K l.fn.engine)) tables l.sought l.fn.walk ≡ map (λ (row : Ranked). row.id) l.rows.items ++ found_ahead (models_at (standpoint K l.fn.engine)) tables l.sought l.walk;
      keyed : (tables : Tables) → HasTables (standpoint K l.fn.engine) tables
          → AreKeyed (held_of (told_to (models_at (standpoint K l.fn.engine)) tables l.sought) l.sought.model) l.sought.order l.rows.items;
    }

abbrev pub decreases-loop-rows : goal.decreases-loop-rows
decreases-loop-rows g l = distance l.walk
