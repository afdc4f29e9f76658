-- A part is sought once; behind the last run the text has to end so.
use Rattle.std.proofs.Common.{sym, ◌∙◌, arith}
use Rattle.std.proofs.lemmas.Grind.{common_steps}
use Rattle.ob_domain.proofs.Matching.{ends_same, run_behind, run_none}
use Rattle.ob_domain.proofs.pattern.matches_behind.Goals as goal

pub returns-in_default-first_place : goal.returns-in_default-first_place
returns-in_default-first_place c =
    sym (c.loop-run.invariant.worth ∙ run_none c.loop-run.parts.now c.loop-run.rest.now c.in-Some.run' (sym c.in-Some.ensures.place) c.in_default-first_place.ensures)

pub loop-run-preserved : goal.loop-run-preserved
loop-run-preserved c = record {
  worth = c.loop-run.invariant.worth ∙ run_behind c.loop-run.parts.now c.loop-run.rest.now c.in-Some.run' c.in-Some-first_place.place
      (sym c.in-Some.ensures.place) (omega (arith, c.in-Some-first_place.ensures.0)) c.in-Some-first_place.ensures.1 c.in-Some-first_place.ensures.2;
  parts = grind (arith, common_steps);
  rest = grind (arith, common_steps);
}

pub returns : goal.returns
returns c = ends_same c.loop-run.parts.now c.loop-run.rest.now c.ends.result (sym c.in_default.ensures.place) c.ends.ensures ∙ sym c.loop-run.invariant.worth
