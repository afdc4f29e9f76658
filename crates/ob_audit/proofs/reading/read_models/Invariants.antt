use Rattle.std.proofs.Common.{◌≡◌, ◌≤◌}
use Rattle.ob_audit.specs.Reading.{ReadsModels}
use Rattle.ob_audit.proofs.reading.read_models.Given as goal

-- the models so far were read
abbrev pub invariant-loop-place : goal.invariant-loop-place
invariant-loop-place g l =
    let keeper = g.K.Keeper in
    record {
      models : l.tables.models ≡ l.schema;
      read : ReadsModels l.schema (keeper.kept l.fn.keeper) l.place l.tables.tables l.fn.rows l.rows;
      same : keeper.kept l.keeper ≡ keeper.kept l.fn.keeper;
      count : keeper.faults l.fn.keeper ≤ keeper.faults l.keeper;
    }
