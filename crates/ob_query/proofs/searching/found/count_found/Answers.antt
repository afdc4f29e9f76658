use Rattle.std.proofs.Common.{List, length, ap, subst, ◌∙◌, arith}
use Rattle.std.specs.Prelude.{not}
use Rattle.ob_query.proofs.Asked.{asked_itself, asked_then, rests_on, sound_at}
use Rattle.ob_query.proofs.FoundRows.{begins_found, few_found}
use Rattle.ob_query.proofs.SearchLoops.{count-all, count-end, count-more, count-none}
use Rattle.ob_query.specs.SearchParts.{found_ahead, found_by}
use Rattle.ob_query.specs.SearchQuestions.{IsTaken}
use Rattle.ob_schema.specs.declared.info.ModelInfo.{ModelInfo}
use Rattle.ob_query.proofs.searching.found.count_found.Goals as goal

pub loop-count-init : goal.loop-count-init
loop-count-init g c = record {
  asked = asked_itself g.K.Keeper c.args.engine.now;
  told = λ tables rests.
      let registry = rw c.schema.ensures at c.parts_fit_together.ensures in
      let begins = begins_found c.args.engine.now.held.models registry tables (sound_at g.K.Keeper c.args.engine.now tables rests) c.args.sought.now c.requires.over.model c.new-walk.result c.new-walk.ensures.page c.new-walk.ensures.last in
      let size = ap length begins in
      omega (arith, size);
}

pub returns-in_err-next_found-clause-asked : goal.returns-in_err-next_found-clause-asked
returns-in_err-next_found-clause-asked g c = asked_then g.K.Keeper c.args.engine.now c.loop-count.engine c.next_found.new.engine c.loop-count.invariant.asked c.next_found.ensures.asked

pub returns-then-is_none-clause-asked : goal.returns-then-is_none-clause-asked
returns-then-is_none-clause-asked g c = asked_then g.K.Keeper c.args.engine.now c.loop-count.engine c.next_found.new.engine c.loop-count.invariant.asked c.next_found.ensures.asked

pub returns-then-is_none-clause-told : goal.returns-then-is_none-clause-told
returns-then-is_none-clause-told g c = λ tables rests.
    let old = c.args.engine.now in
    let sought = c.args.sought.now in
    let all = found_by old.held.models tables sought in
    let same = c.loop-count.invariant.asked.same.models in
    let taken = subst (λ (models : List ModelInfo). IsTaken c.in_ok-next_found.field-0 (found_ahead models tables sought c.loop-count.walk) (found_ahead models tables sought c.next_found.new.walk)) same
    (c.in_ok-next_found.ensures.told tables (rests_on g.K.Keeper old c.loop-count.engine tables c.loop-count.invariant.asked rests)) in
    count-all sought.limit c.most_of-most.result c.loop-count.count all c.most_of-most.ensures.some
    (count-none c.in_ok-next_found.field-0 (length all) c.loop-count.count (found_ahead old.held.models tables sought c.loop-count.walk) (found_ahead old.held.models tables sought c.next_found.new.walk) (c.is_none.ensures ∙ ap not c.if-is_none.true) (c.loop-count.invariant.told tables rests) taken)
    c.loop-count-test.true

pub loop-count-preserved : goal.loop-count-preserved
loop-count-preserved g c = record {
  asked = asked_then g.K.Keeper c.args.engine.now c.loop-count.engine c.next_found.new.engine c.loop-count.invariant.asked c.next_found.ensures.asked;
  told = λ tables rests.
      let old = c.args.engine.now in
      let sought = c.args.sought.now in
      let same = c.loop-count.invariant.asked.same.models in
      let taken = subst (λ (models : List ModelInfo). IsTaken c.in_ok-next_found.field-0 (found_ahead models tables sought c.loop-count.walk) (found_ahead models tables sought c.next_found.new.walk)) same
      (c.in_ok-next_found.ensures.told tables (rests_on g.K.Keeper old c.loop-count.engine tables c.loop-count.invariant.asked rests)) in
      count-more c.in_ok-next_found.field-0 (length (found_by old.held.models tables sought)) c.loop-count.count (found_ahead old.held.models tables sought c.loop-count.walk) (found_ahead old.held.models tables sought c.next_found.new.walk)
      (c.is_none.ensures ∙ ap not c.if-is_none.false) (c.loop-count.invariant.told tables rests) taken;
}

pub returns-clause-told : goal.returns-clause-told
returns-clause-told g c = λ tables rests.
    let old = c.args.engine.now in
    let sought = c.args.sought.now in
    let all = found_by old.held.models tables sought in
    let registry = rw c.schema.ensures at c.parts_fit_together.ensures in
    count-end sought.limit c.most_of-most.result c.loop-count.count (length (found_ahead old.held.models tables sought c.loop-count.walk)) all c.most_of-most.ensures.all c.most_of-most.ensures.some
    (few_found old.held.models registry tables (sound_at g.K.Keeper old tables rests) sought c.requires.over.model) (c.loop-count.invariant.told tables rests) c.loop-count-test.false (omega arith)
