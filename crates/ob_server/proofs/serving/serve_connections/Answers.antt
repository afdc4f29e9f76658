-- A connection more at each turn.
use Rattle.std.proofs.Common.{arith, refl, ◌∙◌}
use Rattle.ob_server.proofs.Counts.{Rose-earlier}
use Rattle.ob_server.proofs.Others.{others_same, others_on}
use Rattle.ob_server.proofs.ReceptionOn.{begins, ends_at_limit}
use Rattle.ob_server.proofs.ReceptionOpened.{ends_serving}
use Rattle.ob_server.proofs.Reasons.{reason_weaker}
use Rattle.ob_server.proofs.SessionOn.{rest_on, others_over}
use Rattle.ob_server.proofs.serving.serve_connections.Goals as goal

pub loop-visit-init : goal.loop-visit-init
loop-visit-init g c = record {
  reception = λ first streams told state. begins first _ streams state told;
  rests = c.requires.rest;
  keeper_count = omega arith;
  next_count = omega arith;
  other_rows = others_same _ _ _ refl;
  lender = refl;
}

pub loop-visit-preserved : goal.loop-visit-preserved
loop-visit-preserved g c =
    let so_far = c.loop-visit.invariant in
    let said = c.in_default.ensures in
    record {
      reception = λ first streams told state. said.reception c.loop-visit._visit c.args.most first _ c.loop-visit-test.true (so_far.reception first streams told state);
      rests = rest_on so_far.rests said.rests;
      keeper_count = omega (arith, so_far.keeper_count, said.keeper_count);
      next_count = omega (arith, so_far.next_count, said.next_count);
      other_rows = others_on _ _ _ _ so_far.other_rows (others_over so_far.rests.models_are said.other_rows);
      lender = said.lender ∙ so_far.lender;
    }

pub returns-in-Some-clause-reception : goal.returns-in-Some-clause-reception
returns-in-Some-clause-reception g c first streams moments written told given rests =
    let so_far = c.loop-visit.invariant in
    let said = c.in-Some.ensures in
    let others = others_on _ _ _ _ so_far.other_rows (others_over so_far.rests.models_are said.other_rows) in
    let stopped = said.reception c.loop-visit._visit c.args.most _ _ c.loop-visit-test.true (so_far.reception _ streams told (record { tables = rests; moments = given; faults = refl })) in
    ends_serving c.args.terms.now first c.in-Some.ending c.args.most moments _ _ written others stopped

pub returns-in-Some-clause-reason : goal.returns-in-Some-clause-reason
returns-in-Some-clause-reason g c =
    let since = c.loop-visit.invariant.next_count in
    reason_weaker _ _ _ _ _ _ _ _ c.in-Some.ending (λ none. none) (λ rose. Rose-earlier _ _ _ since rose) (λ none. none) (λ none. none) c.in-Some.ensures.reason

pub returns-in-Some-clause-other_rows : goal.returns-in-Some-clause-other_rows
returns-in-Some-clause-other_rows g c =
    let so_far = c.loop-visit.invariant in
    others_on _ _ _ _ so_far.other_rows (others_over so_far.rests.models_are c.in-Some.ensures.other_rows)

pub returns-in-Some-clause-keeper_count : goal.returns-in-Some-clause-keeper_count
returns-in-Some-clause-keeper_count g c = omega (arith, c.loop-visit.invariant.keeper_count, c.in-Some.ensures.keeper_count)

pub returns-in-Some-clause-next_count : goal.returns-in-Some-clause-next_count
returns-in-Some-clause-next_count g c = omega (arith, c.loop-visit.invariant.next_count, c.in-Some.ensures.next_count)

pub returns-in-Some-clause-lender : goal.returns-in-Some-clause-lender
returns-in-Some-clause-lender g c = c.in-Some.ensures.lender ∙ c.loop-visit.invariant.lender

pub returns-clause-reception : goal.returns-clause-reception
returns-clause-reception g c first streams moments written told given rests =
    let so_far = c.loop-visit.invariant in
    let stopped = ends_at_limit (so_far.reception _ streams told (record { tables = rests; moments = given; faults = refl })) c.args.most (omega arith) in
    ends_serving c.args.terms.now first _ c.args.most moments _ _ written so_far.other_rows stopped
