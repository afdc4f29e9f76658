use Rattle.std.proofs.Common.{take}
use Rattle.ob_cache.specs.Behind.{LosesGone}
use Rattle.ob_change.specs.Changing.{models_of}
use Rattle.ob_cache.proofs.TakenOut.{NoneOf}
use Rattle.ob_cache.proofs.lasting.lasting_values.Given as goal

-- the rows so far that are gone have no values
abbrev pub invariant-loop-key : goal.invariant-loop-key
invariant-loop-key l = record {
  loses : LosesGone l.fn.change.behind.now.tables l.fn.before l.values;
  none : NoneOf (models_of l.fn.change) l.fn.change.behind.now.tables (take l.key-index l.fn.change.touched.now) l.values;
}
