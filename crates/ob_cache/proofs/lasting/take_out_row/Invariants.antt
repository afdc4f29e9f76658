use Rattle.ob_cache.specs.Behind.{LosesGone}
use Rattle.ob_change.specs.Changing.{models_of}
use Rattle.ob_cache.proofs.TakenOut.{NoneUpTo}
use Rattle.ob_cache.proofs.lasting.take_out_row.Given as goal

-- the cells of the fields so far have no values
abbrev pub invariant-loop-place : goal.invariant-loop-place
invariant-loop-place l = record {
  loses : LosesGone l.fn.change.behind.now.tables l.fn.values l.values;
  none : NoneUpTo (models_of l.fn.change) l.key l.place l.values;
}
