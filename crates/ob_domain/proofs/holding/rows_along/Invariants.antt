-- The rest of the links leads from the rows that are reached; what was told still is, and nothing else.
use Rattle.std.proofs.Common.{◌≡◌, Bool, All, true, drop}
use Rattle.std.specs.List.{list_any}
use Rattle.ob_expr.specs.Meaning.{row_at}
use Rattle.ob_expr.specs.declared.row.Row.{Row as SpecRow}
use Rattle.ob_schema.specs.Facts.{Asked, OfAllTold}
use Rattle.ob_domain.specs.Holding.{some_reached}
use Rattle.ob_domain.specs.Over.{AreLinks, end_of}
use Rattle.ob_domain.specs.declared.asked.Row.{Row}
use Rattle.ob_domain.proofs.holding.rows_along.Given as goal

abbrev pub invariant-loop-link : goal.invariant-loop-link
invariant-loop-link g l = record {
  told : OfAllTold (g.F.Facts.tells l.fn.facts) (λ told. (meets : SpecRow → Bool)
      → list_any (λ (r : Row). some_reached told meets (drop l.link-index l.links) (row_at r.model r.id)) l.rows.items ≡ some_reached told meets l.links (row_at l.fn.row.model l.fn.row.id));
  known : OfAllTold (g.F.Facts.tells l.fn.facts) (λ told. All (λ (r : Row). told.knows r.model r.id ≡ true) l.rows.items);
  links : All (λ (r : Row). AreLinks (g.F.Facts.registry l.fn.facts) r.model (drop l.link-index l.links)) l.rows.items;
  end : All (λ (r : Row). end_of r.model (drop l.link-index l.links) ≡ end_of l.fn.row.model l.links) l.rows.items;
  asked : Asked g.F.Facts.asks l.fn.facts l.facts;
  same : g.F.Facts.registry l.facts ≡ g.F.Facts.registry l.fn.facts;
  kept : OfAllTold (g.F.Facts.tells l.fn.facts) (g.F.Facts.tells l.facts);
  only : OfAllTold (g.F.Facts.tells l.facts) (g.F.Facts.tells l.fn.facts);
}
