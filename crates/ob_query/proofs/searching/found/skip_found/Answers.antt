use Rattle.std.proofs.Common.{◌≤◌, List, ap, subst, ◌∙◌, arith}
use Rattle.std.specs.Prelude.{not}
use Rattle.ob_query.proofs.Asked.{asked_then, rests_on}
use Rattle.ob_query.proofs.SearchLoops.{skip-more, skip-none}
use Rattle.ob_query.specs.SearchParts.{found_ahead}
use Rattle.ob_query.specs.SearchQuestions.{IsTaken}
use Rattle.ob_schema.specs.declared.info.ModelInfo.{ModelInfo}
use Rattle.ob_query.proofs.searching.found.skip_found.Goals as goal

pub returns-then-is_none-clause-told : goal.returns-then-is_none-clause-told
returns-then-is_none-clause-told g c = λ tables rests.
    let old = c.args.engine.now in
    let sought = c.args.sought.now in
    let same = c.loop-skipped.invariant.asked.same.models in
    let taken = subst (λ (models : List ModelInfo). IsTaken c.in_ok-next_found.field-0 (found_ahead models tables sought c.loop-skipped.walk) (found_ahead models tables sought c.next_found.new.walk)) same
    (c.in_ok-next_found.ensures.told tables (rests_on g.K.Keeper old c.loop-skipped.engine tables c.loop-skipped.invariant.asked rests)) in
    let low : c.loop-skipped._skipped ≤ sought.offset = omega arith in
    skip-none c.in_ok-next_found.field-0 c.loop-skipped._skipped sought.offset (found_ahead old.held.models tables sought c.args.walk.now) (found_ahead old.held.models tables sought c.loop-skipped.walk) (found_ahead old.held.models tables sought c.next_found.new.walk)
    (c.is_none.ensures ∙ ap not c.if-is_none.true) low (c.loop-skipped.invariant.told tables rests) taken

pub returns-then-is_none-clause-asked : goal.returns-then-is_none-clause-asked
returns-then-is_none-clause-asked g c = asked_then g.K.Keeper c.args.engine.now c.loop-skipped.engine c.next_found.new.engine c.loop-skipped.invariant.asked c.next_found.ensures.asked

pub returns-in_err-next_found-clause-asked : goal.returns-in_err-next_found-clause-asked
returns-in_err-next_found-clause-asked g c = asked_then g.K.Keeper c.args.engine.now c.loop-skipped.engine c.next_found.new.engine c.loop-skipped.invariant.asked c.next_found.ensures.asked

pub loop-skipped-preserved : goal.loop-skipped-preserved
loop-skipped-preserved g c = record {
  asked = asked_then g.K.Keeper c.args.engine.now c.loop-skipped.engine c.next_found.new.engine c.loop-skipped.invariant.asked c.next_found.ensures.asked;
  told = λ tables rests.
      let old = c.args.engine.now in
      let sought = c.args.sought.now in
      let same = c.loop-skipped.invariant.asked.same.models in
      let taken = subst (λ (models : List ModelInfo). IsTaken c.in_ok-next_found.field-0 (found_ahead models tables sought c.loop-skipped.walk) (found_ahead models tables sought c.next_found.new.walk)) same
      (c.in_ok-next_found.ensures.told tables (rests_on g.K.Keeper old c.loop-skipped.engine tables c.loop-skipped.invariant.asked rests)) in
      skip-more c.in_ok-next_found.field-0 c.loop-skipped._skipped (found_ahead old.held.models tables sought c.args.walk.now) (found_ahead old.held.models tables sought c.loop-skipped.walk) (found_ahead old.held.models tables sought c.next_found.new.walk)
      (c.is_none.ensures ∙ ap not c.if-is_none.false) (c.loop-skipped.invariant.told tables rests) taken;
}
