-- The answers so far are those of the trees that the terms from there on spell; none of the rows so far meets what is asked.
use Rattle.std.proofs.Common.{◌≡◌, drop, map, reverse}
use Rattle.std.specs.List.{list_any}
use Rattle.ob_expr.specs.Meaning.{row_at}
use Rattle.ob_schema.specs.Facts.{Asked, OfAllTold}
use Rattle.ob_domain.specs.Holding.{holds}
use Rattle.ob_domain.specs.Trees.{item_of, spelled, tree_of}
use Rattle.ob_domain.specs.declared.asked.Row.{Row}
use Rattle.ob_domain.proofs.Answered.{held}
use Rattle.ob_domain.proofs.holding.+holding.Given as goal

abbrev pub invariant-meets-loop-place : goal.invariant-meets-loop-place
invariant-meets-loop-place g l = record {
  answers : OfAllTold (g.F.Facts.tells l.fn.facts)
      (λ told. reverse l.answers.items ≡ map (held told l.fn.user (row_at l.fn.row.model l.fn.row.id)) (spelled (map item_of (drop l.place l.terms))));
  asked : Asked g.F.Facts.asks l.fn.facts l.facts;
  same : g.F.Facts.registry l.facts ≡ g.F.Facts.registry l.fn.facts;
  kept : OfAllTold (g.F.Facts.tells l.fn.facts) (g.F.Facts.tells l.facts);
  only : OfAllTold (g.F.Facts.tells l.facts) (g.F.Facts.tells l.fn.facts);
}

abbrev pub invariant-any_meets-loop-reached : goal.invariant-any_meets-loop-reached
invariant-any_meets-loop-reached g l = record {
  none : OfAllTold (g.F.Facts.tells l.fn.facts) (λ told. list_any (λ (r : Row). holds told l.fn.user (tree_of l.terms) (row_at r.model r.id)) l.reached-items
      ≡ list_any (λ (r : Row). holds told l.fn.user (tree_of l.terms) (row_at r.model r.id)) (drop l.reached-index l.reached-items));
  asked : Asked g.F.Facts.asks l.fn.facts l.facts;
  same : g.F.Facts.registry l.facts ≡ g.F.Facts.registry l.fn.facts;
  kept : OfAllTold (g.F.Facts.tells l.fn.facts) (g.F.Facts.tells l.facts);
  only : OfAllTold (g.F.Facts.tells l.facts) (g.F.Facts.tells l.fn.facts);
}
