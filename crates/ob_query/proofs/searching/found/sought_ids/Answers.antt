use Rattle.std.proofs.Common.{◌≡◌, [], List, drop, sym, ap, subst, ◌∙◌}
use Rattle.std.proofs.lemmas.Result.{IfOk-weaker}
use Rattle.ob_base.specs.declared.id.RecId.{RecId}
use Rattle.ob_query.proofs.Asked.{asked_then, rests_on, sound_at}
use Rattle.ob_query.proofs.FoundRows.{begins_found, found_ordered}
use Rattle.ob_query.specs.Search.{held_of}
use Rattle.ob_query.specs.SearchOrder.{AreOrdered, limited}
use Rattle.ob_query.specs.SearchParts.{found_ahead, found_by, told_to}
use Rattle.ob_schema.specs.declared.info.ModelInfo.{ModelInfo}
use Rattle.ob_schema.specs.declared.info.OrderTerm.{OrderTerm}
use Rattle.ob_query.proofs.searching.found.sought_ids.Goals as goal

pub returns-then-is_empty-clause-asked : goal.returns-then-is_empty-clause-asked
returns-then-is_empty-clause-asked g c = asked_then g.K.Keeper c.args.engine.now c.skip_found.new.engine c.first_found.new.engine c.skip_found.ensures.asked c.first_found.ensures.asked

pub returns-then-is_empty-clause-told : goal.returns-then-is_empty-clause-told
returns-then-is_empty-clause-told g c =
    let old = c.args.engine.now in
    let sought = c.args.sought.now in
    let registry = rw c.schema.ensures at c.parts_fit_together.ensures in
    let none : sought.order ≡ [] = c.is_empty.ensures.0 c.if-is_empty.true in
    IfOk-weaker c.first_found.result _ _
    (λ ids are tables rests.
    let sound = sound_at g.K.Keeper old tables rests in
    let begins = begins_found old.held.models registry tables sound sought c.requires.over.model c.new-walk.result c.new-walk.ensures.page c.new-walk.ensures.last in
    let skipped = c.in_ok-skip_found.ensures.told tables rests in
    let first = subst (λ (models : List ModelInfo). ids.items ≡ limited sought.limit (found_ahead models tables sought c.skip_found.new.walk)) c.skip_found.ensures.asked.same.models (are tables (rests_on g.K.Keeper old c.skip_found.new.engine tables c.skip_found.ensures.asked rests)) in
    subst (λ (terms : List OrderTerm). AreOrdered (held_of (told_to old.held.models tables sought) sought.model) terms sought.offset sought.limit (found_by old.held.models tables sought) ids.items) (sym none)
    (found_ordered old.held.models registry tables sound sought c.requires.over.model (held_of (told_to old.held.models tables sought) sought.model) ids.items
    (first ∙ ap (limited sought.limit) (skipped ∙ ap (drop sought.offset) begins))))
    c.first_found.ensures.told

pub returns-clause-told : goal.returns-clause-told
returns-clause-told g c = λ tables rests.
    let old = c.args.engine.now in
    let sought = c.args.sought.now in
    let registry = rw c.schema.ensures at c.parts_fit_together.ensures in
    let held = held_of (told_to old.held.models tables sought) sought.model in
    let begins = begins_found old.held.models registry tables (sound_at g.K.Keeper old tables rests) sought c.requires.over.model c.new-walk.result c.new-walk.ensures.page c.new-walk.ensures.last in
    let ranked = c.in_ok-rows.ensures.told tables rests in
    subst (λ (l : List RecId). AreOrdered held sought.order sought.offset sought.limit l c.in_ok-ids_in_order.field-0.items) (ranked.ids_are ∙ begins) (c.in_ok-ids_in_order.ensures held sought.order ranked.keyed)
