use Rattle.std.proofs.Common.{◌≡◌, [], ◌∷◌, ◌++◌, List, Some, None, map, sym, ap, subst, ◌∙◌, arith}
use Rattle.std.proofs.lemmas.Grind.{common_steps}
use Rattle.std.proofs.lemmas.List.{append-nil, map-append}
use Rattle.std.proofs.lemmas.List.Elements.{All-push}
use Rattle.ob_base.specs.declared.id.RecId.{RecId}
use Rattle.ob_query.proofs.Asked.{asked_then, rests_on}
use Rattle.ob_query.proofs.Callers.{tells_tables_to, told_back}
use Rattle.ob_query.proofs.SearchLoops.{first-more}
use Rattle.ob_query.specs.Search.{held_of}
use Rattle.ob_query.specs.SearchKeys.{AreKeyed, key_of}
use Rattle.ob_query.specs.declared.searching.order.Ranked.{Ranked}
use Rattle.ob_schema.specs.Facts.{Told}
use Rattle.ob_query.specs.SearchParts.{found_ahead, told_to}
use Rattle.ob_query.specs.SearchQuestions.{IsTaken}
use Rattle.ob_schema.specs.declared.info.ModelInfo.{ModelInfo}
use Rattle.ob_query.proofs.searching.found.ranked_found.Goals as goal

pub returns-in_err-id-clause-asked : goal.returns-in_err-id-clause-asked
returns-in_err-id-clause-asked g c = asked_then g.K.Keeper c.args.engine.now c.loop-rows.engine c.next_found.new.engine c.loop-rows.invariant.asked c.next_found.ensures.asked

pub returns-in_err-keys-clause-asked : goal.returns-in_err-keys-clause-asked
returns-in_err-keys-clause-asked g c = asked_then g.K.Keeper c.args.engine.now c.next_found.new.engine c.keys_of.new.engine (asked_then g.K.Keeper c.args.engine.now c.loop-rows.engine c.next_found.new.engine c.loop-rows.invariant.asked c.next_found.ensures.asked) c.keys_of.ensures.asked

pub returns-in_err-push-clause-asked : goal.returns-in_err-push-clause-asked
returns-in_err-push-clause-asked g c = asked_then g.K.Keeper c.args.engine.now c.next_found.new.engine c.keys_of.new.engine (asked_then g.K.Keeper c.args.engine.now c.loop-rows.engine c.next_found.new.engine c.loop-rows.invariant.asked c.next_found.ensures.asked) c.keys_of.ensures.asked

pub returns-clause-asked : goal.returns-clause-asked
returns-clause-asked g c = asked_then g.K.Keeper c.args.engine.now c.loop-rows.engine c.next_found.new.engine c.loop-rows.invariant.asked c.next_found.ensures.asked

pub loop-rows-preserved : goal.loop-rows-preserved
loop-rows-preserved g c =
    let row : Ranked = record { keys = c.in_ok-keys.keys; id = c.in-Some.id } in
    let pushed : c.push.new.self.items ≡ c.loop-rows.rows.items ++ row ∷ [] = grind (arith, common_steps) in
    let its_id = λ (row : Ranked). row.id in
    record {
      asked = asked_then g.K.Keeper c.args.engine.now c.next_found.new.engine c.keys_of.new.engine (asked_then g.K.Keeper c.args.engine.now c.loop-rows.engine c.next_found.new.engine c.loop-rows.invariant.asked c.next_found.ensures.asked) c.keys_of.ensures.asked;
      told = λ tables rests.
          let old = c.args.engine.now in
          let sought = c.args.sought.now in
          let same = c.loop-rows.invariant.asked.same.models in
          let taken = subst (λ (models : List ModelInfo). IsTaken (Some c.in-Some.id) (found_ahead models tables sought c.loop-rows.walk) (found_ahead models tables sought c.next_found.new.walk)) same
          ((rw c.in-Some.is at c.in_ok-id.ensures.told) tables (rests_on g.K.Keeper old c.loop-rows.engine tables c.loop-rows.invariant.asked rests)) in
          first-more (found_ahead old.held.models tables sought c.args.walk.now) (map its_id c.loop-rows.rows.items) (found_ahead old.held.models tables sought c.loop-rows.walk) (found_ahead old.held.models tables sought c.next_found.new.walk) c.in-Some.id (c.loop-rows.invariant.told tables rests) taken
          ∙ ap (λ (l : List RecId). l ++ found_ahead old.held.models tables sought c.next_found.new.walk) (sym (map-append its_id c.loop-rows.rows.items (row ∷ [])) ∙ ap (map its_id) (sym pushed));
      keyed = λ tables rests.
          let old = c.args.engine.now in
          let sought = c.args.sought.now in
          let told = told_to old.held.models tables sought in
          let P = λ (told : Told). c.in_ok-keys.keys.items ≡ map (key_of (held_of told sought.model) c.in-Some.id) sought.order in
          let keys = told_back g.K.Keeper c.args.sought.now.by old c.next_found.new.engine P (asked_then g.K.Keeper c.args.engine.now c.loop-rows.engine c.next_found.new.engine c.loop-rows.invariant.asked c.next_found.ensures.asked) c.in_ok-keys.ensures.told told (tells_tables_to g.K.Keeper c.args.sought.now.by old tables rests) in
          subst (AreKeyed (held_of told sought.model) sought.order) (sym pushed)
          (All-push (λ (row : Ranked). row.keys.items ≡ map (key_of (held_of told sought.model) row.id) sought.order) c.loop-rows.rows.items row (c.loop-rows.invariant.keyed tables rests) keys);
    }

pub returns-clause-told : goal.returns-clause-told
returns-clause-told g c = λ tables rests.
    let old = c.args.engine.now in
    let sought = c.args.sought.now in
    let its_id = λ (row : Ranked). row.id in
    let same = c.loop-rows.invariant.asked.same.models in
    let taken = subst (λ (models : List ModelInfo). IsTaken None (found_ahead models tables sought c.loop-rows.walk) (found_ahead models tables sought c.next_found.new.walk)) same
    ((rw c.in_default.is at c.in_ok-id.ensures.told) tables (rests_on g.K.Keeper old c.loop-rows.engine tables c.loop-rows.invariant.asked rests)) in
    record {
      ids_are = sym (c.loop-rows.invariant.told tables rests ∙ ap (λ (l : List RecId). map its_id c.loop-rows.rows.items ++ l) taken.0 ∙ append-nil (map its_id c.loop-rows.rows.items));
      keyed = c.loop-rows.invariant.keyed tables rests;
    }
