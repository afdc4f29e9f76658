-- The known rows that those so far name; what was told still is, and nothing else.
use Rattle.std.proofs.Common.{◌≡◌, ◌&&◌, Bool, All, true, take}
use Rattle.std.specs.List.{list_any}
use Rattle.ob_base.specs.declared.id.RecId.{RecId}
use Rattle.ob_expr.specs.Meaning.{cell_in, row_at}
use Rattle.ob_schema.specs.Facts.{Asked, OfAllTold}
use Rattle.ob_domain.specs.Passing.{targets_of}
use Rattle.ob_domain.specs.declared.asked.Row.{Row}
use Rattle.ob_domain.proofs.holding.rows_behind.Given as goal

abbrev pub invariant-loop-row : goal.invariant-loop-row
invariant-loop-row g l = record {
  told : OfAllTold (g.F.Facts.tells l.fn.facts) (λ told. (test : RecId → Bool) → list_any test l.named.keys
      ≡ list_any (λ (r : Row). list_any (λ (id : RecId). told.knows l.link.target id && test id) (targets_of (told.held (cell_in (row_at r.model r.id) l.link.field))))
      (take l.row-index l.rows));
  known : OfAllTold (g.F.Facts.tells l.fn.facts) (λ told. All (λ (id : RecId). told.knows l.link.target id ≡ true) l.named.keys);
  asked : Asked g.F.Facts.asks l.fn.facts l.facts;
  same : g.F.Facts.registry l.facts ≡ g.F.Facts.registry l.fn.facts;
  kept : OfAllTold (g.F.Facts.tells l.fn.facts) (g.F.Facts.tells l.facts);
  only : OfAllTold (g.F.Facts.tells l.facts) (g.F.Facts.tells l.fn.facts);
}
