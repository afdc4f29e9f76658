use Rattle.ob_query.specs.SearchParts.{told_to}
-- A new walk comes to all rows that are found.
use Rattle.std.proofs.Common.{List, subst}
use Rattle.std.proofs.lemmas.Result.{IfOk-weaker}
use Rattle.ob_base.specs.declared.id.RecId.{RecId}
use Rattle.ob_query.proofs.CallerLemmas.{begins_found, sound_at}
use Rattle.ob_group.specs.GroupParts.{AreGathered, asked_view}
use Rattle.ob_query.specs.Search.{held_of}
use Rattle.ob_group.proofs.gathered.gathered.Goals as goal

pub returns-clause-told : goal.returns-clause-told
returns-clause-told g c =
    let old = c.args.engine.now in
    let asked = c.args.asked.now in
    let registry = rw c.schema.ensures at c.parts_fit_together.ensures in
    IfOk-weaker c.gathered_from.result _ _
    (λ groups are tables rests.
    let begins = begins_found old.held.models registry tables (sound_at g.K.Keeper old tables rests) asked.sought c.requires.over.sought.model c.new-walk.result c.new-walk.ensures.page c.new-walk.ensures.last in
    subst (λ (ids : List RecId). AreGathered (held_of (told_to old.held.models tables asked.sought) asked.sought.model) (asked_view asked) ids groups) begins (are tables rests))
    c.gathered_from.ensures.told
