-- An item more at each turn; after as many turns as there may be bytes, too many were sent.
use Rattle.std.proofs.Common.{arith, refl, ◌∙◌}
use Rattle.ob_server.proofs.ExchangeOn.{begins, ends_full}
use Rattle.ob_server.proofs.Others.{others_same, others_on}
use Rattle.ob_server.proofs.SessionOn.{rest_on, others_over}
use Rattle.ob_server.proofs.connection.serve_items.Goals as goal

pub loop-item-init : goal.loop-item-init
loop-item-init g c = record {
  exchange = λ first stream state told. begins first stream _ _ c.new-held.ensures state told;
  rests = c.requires.rest;
  door_count = omega arith;
  keeper_count = omega arith;
  others = (refl, refl);
  other_rows = others_same _ _ _ refl;
  lender = refl;
}

pub loop-item-preserved : goal.loop-item-preserved
loop-item-preserved g c =
    let so_far = c.loop-item.invariant in
    let said = c.in_default.ensures in
    record {
      exchange = λ first stream state told. said.exchange c.loop-item._item first stream _ (so_far.exchange first stream state told);
      rests = rest_on so_far.rests said.rests;
      door_count = omega (arith, so_far.door_count, said.door_count);
      keeper_count = omega (arith, so_far.keeper_count, said.keeper_count);
      others = (said.others.0 ∙ so_far.others.0, said.others.1 ∙ so_far.others.1);
      other_rows = others_on _ _ _ _ so_far.other_rows (others_over so_far.rests.models_are said.other_rows);
      lender = said.lender ∙ so_far.lender;
    }

pub returns-in-Some-clause-exchange : goal.returns-in-Some-clause-exchange
returns-in-Some-clause-exchange g c first stream state told =
    c.in-Some.ensures.exchange c.loop-item._item first stream _ (c.loop-item.invariant.exchange first stream state told)

pub returns-in-Some-clause-other_rows : goal.returns-in-Some-clause-other_rows
returns-in-Some-clause-other_rows g c =
    let so_far = c.loop-item.invariant in
    others_on _ _ _ _ so_far.other_rows (others_over so_far.rests.models_are c.in-Some.ensures.other_rows)

pub returns-in-Some-clause-rests : goal.returns-in-Some-clause-rests
returns-in-Some-clause-rests g c = rest_on c.loop-item.invariant.rests c.in-Some.ensures.rests

pub returns-in-Some-clause-door_count : goal.returns-in-Some-clause-door_count
returns-in-Some-clause-door_count g c = omega (arith, c.loop-item.invariant.door_count, c.in-Some.ensures.door_count)

pub returns-in-Some-clause-keeper_count : goal.returns-in-Some-clause-keeper_count
returns-in-Some-clause-keeper_count g c = omega (arith, c.loop-item.invariant.keeper_count, c.in-Some.ensures.keeper_count)

pub returns-clause-exchange : goal.returns-clause-exchange
returns-clause-exchange g c first stream state told =
    ends_full (c.loop-item.invariant.exchange first stream state told) (omega arith)
