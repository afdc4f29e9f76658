-- None of the rows so far stands below; what was told still is, and nothing else.
use Rattle.std.proofs.Common.{◌≡◌, drop}
use Rattle.ob_schema.specs.Facts.{Asked, OfAllTold}
use Rattle.ob_domain.specs.Holding.{some_below}
use Rattle.ob_domain.proofs.tree.some_below.Given as goal

abbrev pub invariant-loop-lower : goal.invariant-loop-lower
invariant-loop-lower g l = record {
  none : OfAllTold (g.F.Facts.tells l.fn.facts) (λ told. some_below told l.paths l.uppers l.lowers ≡ some_below told l.paths l.uppers (drop l.lower-index l.lowers));
  asked : Asked g.F.Facts.asks l.fn.facts l.facts;
  same : g.F.Facts.registry l.facts ≡ g.F.Facts.registry l.fn.facts;
  kept : OfAllTold (g.F.Facts.tells l.fn.facts) (g.F.Facts.tells l.facts);
  only : OfAllTold (g.F.Facts.tells l.facts) (g.F.Facts.tells l.fn.facts);
}
