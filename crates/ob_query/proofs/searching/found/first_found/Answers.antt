use Rattle.std.proofs.Common.{◌≡◌, [], ◌∷◌, ◌++◌, List, Some, None, length, sym, ap, subst, ◌∙◌, arith}
use Rattle.std.proofs.lemmas.Grind.{common_steps}
use Rattle.ob_base.specs.declared.id.RecId.{RecId}
use Rattle.ob_query.proofs.Asked.{asked_then, rests_on}
use Rattle.ob_query.proofs.SearchLoops.{first-all, first-full, first-more}
use Rattle.ob_query.specs.SearchParts.{found_ahead}
use Rattle.ob_query.specs.SearchQuestions.{IsTaken}
use Rattle.ob_schema.specs.declared.info.ModelInfo.{ModelInfo}
use Rattle.ob_query.proofs.searching.found.first_found.Goals as goal

pub returns-in_err-id-clause-asked : goal.returns-in_err-id-clause-asked
returns-in_err-id-clause-asked g c = asked_then g.K.Keeper c.args.engine.now c.loop-ids.engine c.next_found.new.engine c.loop-ids.invariant.asked c.next_found.ensures.asked

pub returns-in_err-push-clause-asked : goal.returns-in_err-push-clause-asked
returns-in_err-push-clause-asked g c = asked_then g.K.Keeper c.args.engine.now c.loop-ids.engine c.next_found.new.engine c.loop-ids.invariant.asked c.next_found.ensures.asked

pub returns-then-len-sought-clause-asked : goal.returns-then-len-sought-clause-asked
returns-then-len-sought-clause-asked g c = asked_then g.K.Keeper c.args.engine.now c.loop-ids.engine c.next_found.new.engine c.loop-ids.invariant.asked c.next_found.ensures.asked

pub returns-clause-asked : goal.returns-clause-asked
returns-clause-asked g c = asked_then g.K.Keeper c.args.engine.now c.loop-ids.engine c.next_found.new.engine c.loop-ids.invariant.asked c.next_found.ensures.asked

pub returns-then-len-sought-clause-told : goal.returns-then-len-sought-clause-told
returns-then-len-sought-clause-told g c = λ tables rests.
    let old = c.args.engine.now in
    let sought = c.args.sought.now in
    let pushed : c.push.new.self.items ≡ c.loop-ids.ids.items ++ c.in-Some.id ∷ [] = grind (arith, common_steps) in
    let size : length (c.loop-ids.ids.items ++ c.in-Some.id ∷ []) ≡ sought.limit = grind (arith, common_steps) in
    let same = c.loop-ids.invariant.asked.same.models in
    let taken = subst (λ (models : List ModelInfo). IsTaken (Some c.in-Some.id) (found_ahead models tables sought c.loop-ids.walk) (found_ahead models tables sought c.next_found.new.walk)) same
    ((rw c.in-Some.is at c.in_ok-id.ensures.told) tables (rests_on g.K.Keeper old c.loop-ids.engine tables c.loop-ids.invariant.asked rests)) in
    pushed ∙ first-full sought.limit (found_ahead old.held.models tables sought c.args.walk.now) c.loop-ids.ids.items (found_ahead old.held.models tables sought c.next_found.new.walk) c.in-Some.id (first-more (found_ahead old.held.models tables sought c.args.walk.now) c.loop-ids.ids.items (found_ahead old.held.models tables sought c.loop-ids.walk) (found_ahead old.held.models tables sought c.next_found.new.walk) c.in-Some.id (c.loop-ids.invariant.told tables rests) taken) size

pub loop-ids-preserved : goal.loop-ids-preserved
loop-ids-preserved g c =
    let pushed : c.push.new.self.items ≡ c.loop-ids.ids.items ++ c.in-Some.id ∷ [] = grind (arith, common_steps) in
    record {
      asked = asked_then g.K.Keeper c.args.engine.now c.loop-ids.engine c.next_found.new.engine c.loop-ids.invariant.asked c.next_found.ensures.asked;
      told = λ tables rests.
          let old = c.args.engine.now in
          let sought = c.args.sought.now in
          let same = c.loop-ids.invariant.asked.same.models in
          let taken = subst (λ (models : List ModelInfo). IsTaken (Some c.in-Some.id) (found_ahead models tables sought c.loop-ids.walk) (found_ahead models tables sought c.next_found.new.walk)) same
          ((rw c.in-Some.is at c.in_ok-id.ensures.told) tables (rests_on g.K.Keeper old c.loop-ids.engine tables c.loop-ids.invariant.asked rests)) in
          first-more (found_ahead old.held.models tables sought c.args.walk.now) c.loop-ids.ids.items (found_ahead old.held.models tables sought c.loop-ids.walk) (found_ahead old.held.models tables sought c.next_found.new.walk) c.in-Some.id (c.loop-ids.invariant.told tables rests) taken ∙ ap (λ (l : List RecId). l ++ found_ahead old.held.models tables sought c.next_found.new.walk) (sym pushed);
      fewer = λ some. let low = c.loop-ids.invariant.fewer some in grind (arith, common_steps, low);
    }

pub returns-clause-told : goal.returns-clause-told
returns-clause-told g c = λ tables rests.
    let old = c.args.engine.now in
    let sought = c.args.sought.now in
    let same = c.loop-ids.invariant.asked.same.models in
    let taken = subst (λ (models : List ModelInfo). IsTaken None (found_ahead models tables sought c.loop-ids.walk) (found_ahead models tables sought c.next_found.new.walk)) same
    ((rw c.in_default.is at c.in_ok-id.ensures.told) tables (rests_on g.K.Keeper old c.loop-ids.engine tables c.loop-ids.invariant.asked rests)) in
    first-all sought.limit (found_ahead old.held.models tables sought c.args.walk.now) c.loop-ids.ids.items (found_ahead old.held.models tables sought c.loop-ids.walk)
    c.loop-ids.invariant.fewer (c.loop-ids.invariant.told tables rests) taken.0
