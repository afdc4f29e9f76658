use Rattle.std.proofs.Common.{◌≡◌, ◌++◌, List}
use Rattle.ob_cache.specs.Calls.{HasTables, models_at, standpoint}
use Rattle.ob_group.specs.GroupParts.{AreSome, asked_view, rows_among, rows_at}
use Rattle.ob_query.specs.Search.{held_of}
use Rattle.ob_query.specs.SearchParts.{found_ahead, told_to}
use Rattle.ob_query.specs.SearchQuestions.{OnlyAsked, distance}
use Rattle.ob_query.specs.declared.searching.order.Key.{Key}
use Rattle.ob_schema.specs.Tables.{Tables}
use Rattle.ob_group.proofs.gathered.gathered_from.Given as goal

-- the first rows are in their groups
abbrev pub invariant-loop-groups : goal.invariant-loop-groups
invariant-loop-groups g l =
    let K = g.K.Keeper in
    record {
      asked : OnlyAsked K l.fn.engine l.engine;
      told : (tables : Tables) → HasTables (standpoint K l.fn.engine) tables → (at : List Key)
          → rows_among (held_of (told_to (models_at (standpoint K l.fn.engine)) tables l.asked.sought) l.asked.sought.model) (asked_view l.asked) (found_ahead (models_at (standpoint K l.fn.engine)) tables l.asked.sought l.fn.walk) at
          ≡ rows_at l.groups at ++ rows_among (held_of (told_to (models_at (standpoint K l.fn.engine)) tables l.asked.sought) l.asked.sought.model) (asked_view l.asked) (found_ahead (models_at (standpoint K l.fn.engine)) tables l.asked.sought l.walk) at;
      some : AreSome l.groups;
    }

abbrev pub decreases-loop-groups : goal.decreases-loop-groups
decreases-loop-groups g l = distance l.walk
