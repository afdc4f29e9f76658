use Rattle.std.proofs.Common.{◌≡◌}
use Rattle.std.specs.List.{AllWithin}
use Rattle.ob_cache.proofs.OwnFaults.{OnRoute}
use Rattle.ob_change.specs.Changing.{models_of}
use Rattle.ob_expr.specs.Meaning.{row_of}
use Rattle.ob_cache.proofs.failing.lacking.Given as goal

-- the cells along the paths so far have values
abbrev pub invariant-loop-path : goal.invariant-loop-path
invariant-loop-path l = record {
  same : l.source ≡ l.fn.source;
  along : AllWithin (OnRoute (models_of l.fn.change) l.fn.change.behind.now.tables (row_of l.fn.cell)) l.path-items 0 l.path-index;
}
