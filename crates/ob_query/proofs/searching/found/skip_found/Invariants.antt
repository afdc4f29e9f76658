use Rattle.std.proofs.Common.{◌≡◌, drop}
use Rattle.ob_cache.specs.Calls.{HasTables, models_at, standpoint}
use Rattle.ob_query.specs.SearchParts.{found_ahead}
use Rattle.ob_query.specs.SearchQuestions.{OnlyAsked}
use Rattle.ob_schema.specs.Tables.{Tables}
use Rattle.ob_query.proofs.searching.found.skip_found.Given as goal

-- so many rows were passed over
abbrev pub invariant-loop-skipped : goal.invariant-loop-skipped
invariant-loop-skipped g l =
    let K = g.K.Keeper in
    record {
      asked : OnlyAsked K l.fn.engine l.engine;
      told : (tables : Tables) → HasTables (standpoint K l.fn.engine) tables
          → found_ahead (models_at (standpoint K l.fn.engine)) tables l.sought l.walk ≡ drop l._skipped (found_ahead (models_at (standpoint K l.fn.engine)) tables l.sought l.fn.walk);
    }
