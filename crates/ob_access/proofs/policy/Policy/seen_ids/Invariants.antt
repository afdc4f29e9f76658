-- Of the ids so far those that are seen; and they rise, with those that are left behind them.
use Rattle.std.proofs.Common.{◌≡◌, ◌++◌, drop, take}
use Rattle.std.specs.List.Sorted.{IsStrictlySortedBy}
use Rattle.ob_schema.specs.Facts.{Asked, OfAllTold}
use Rattle.ob_access.specs.Views.{seen_ids}
use Rattle.ob_access.proofs.Rising.{id_cmp}
use Rattle.ob_access.proofs.policy.Policy.seen_ids.Given as goal

abbrev pub invariant-loop-id : goal.invariant-loop-id
invariant-loop-id g l = record {
  seen : OfAllTold (g.F.Facts.tells l.fn.facts) (λ told. l.seen ≡ seen_ids l.self told l.groups l.user l.model (take l.id-index l.ids));
  rises : IsStrictlySortedBy id_cmp (l.seen ++ drop l.id-index l.ids);
  asked : Asked g.F.Facts.asks l.fn.facts l.facts;
  same : g.F.Facts.registry l.facts ≡ g.F.Facts.registry l.fn.facts;
  kept : OfAllTold (g.F.Facts.tells l.fn.facts) (g.F.Facts.tells l.facts);
  only : OfAllTold (g.F.Facts.tells l.facts) (g.F.Facts.tells l.fn.facts);
}
