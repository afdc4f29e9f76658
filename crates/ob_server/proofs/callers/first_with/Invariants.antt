use Rattle.std.proofs.Common.{◌≡◌}
use Rattle.std.specs.List.{find}
use Rattle.ob_cache.specs.Calls.{HasTables, models_at, standpoint}
use Rattle.ob_query.specs.SearchQuestions.{OnlyAsked, ahead, distance}
use Rattle.ob_schema.specs.Facts.{told_by}
use Rattle.ob_schema.specs.Tables.{Tables, ids_in}
use Rattle.ob_server.specs.Directory.{first_with, logs_in}
use Rattle.ob_server.proofs.callers.first_with.Given as goal

-- nobody who was passed over logs in so
abbrev pub invariant-loop-walk : goal.invariant-loop-walk
invariant-loop-walk g l =
    let K = g.K.Keeper in
    record {
      asked : OnlyAsked K l.fn.engine l.engine;
      told : (tables : Tables) → HasTables (standpoint K l.fn.engine) tables → let models = models_at (standpoint K l.fn.engine) in
          first_with models tables l.users l.login l.key ≡ find (logs_in (told_by models tables) l.users l.login l.key) (ahead l.walk (ids_in tables l.users.model));
    }

abbrev pub decreases-loop-walk : goal.decreases-loop-walk
decreases-loop-walk g l = distance l.walk
