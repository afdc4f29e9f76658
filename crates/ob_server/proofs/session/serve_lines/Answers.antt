use Rattle.std.proofs.Common.{arith, refl, ◌∙◌}
use Rattle.ob_server.proofs.SessionOn.{begins, ends_at_once, rest_on, others_over, over_same}
use Rattle.ob_server.proofs.Others.{others_same, others_on}
use Rattle.ob_server.proofs.session.serve_lines.Goals as goal

pub returns-in_default-clause-session : goal.returns-in_default-clause-session
returns-in_default-clause-session g c first rests = ends_at_once c.args.terms.now (record { left = _; now = _; first = first }) _ rests

pub lines-init : goal.lines-init
lines-init g c = record {
  session = λ first rests. begins (record { left = _; now = _; first = first }) _ c.in-Ok.ensures rests;
  rests = c.requires.rest;
  input_count = omega arith;
  output_count = omega arith;
  keeper_count = omega arith;
  others = others_same _ _ _ refl;
  lender = refl;
}

pub returns-in_default-clause-others : goal.returns-in_default-clause-others
returns-in_default-clause-others g c = others_same _ _ _ refl

-- the session went on to here, and ends
pub returns-in-Some-clause-session : goal.returns-in-Some-clause-session
returns-in-Some-clause-session g c first rests =
    over_same c.args.terms.now c.lines.invariant.rests.models_are (c.in-Some.ensures.session _ (c.lines.invariant.session first rests))

-- the session went on to here, and goes on
pub lines-preserved : goal.lines-preserved
lines-preserved g c =
    let so_far = c.lines.invariant in
    let said = c.in_default-serve_next.ensures in
    record {
      session = λ first rests. said.session _ (so_far.session first rests);
      rests = rest_on so_far.rests said.rests;
      input_count = omega (arith, so_far.input_count, said.input_count);
      output_count = omega (arith, so_far.output_count, said.output_count);
      keeper_count = omega (arith, so_far.keeper_count, said.keeper_count);
      others = others_on _ _ _ _ so_far.others (others_over so_far.rests.models_are said.others);
      lender = said.lender ∙ so_far.lender;
    }
