use Rattle.std.proofs.Common.{◌≡◌, true, sym, ◌∙◌}
use Rattle.ob_query.proofs.Asked.{asked_then, first_true, near_then, rests_on}
use Rattle.ob_query.proofs.Callers.{tells_tables_to, told_back, told_on}
use Rattle.ob_query.proofs.FoundRows.{fails_next, passes_next}
use Rattle.ob_query.specs.Search.{is_found}
use Rattle.ob_query.specs.SearchParts.{is_known_found, sought_view, told_to}
use Rattle.ob_query.specs.SearchQuestions.{ahead, distance}
use Rattle.ob_schema.specs.Facts.{Told}
use Rattle.ob_schema.specs.Tables.{ids_in}
use Rattle.ob_query.proofs.searching.found.next_found.Goals as goal

pub returns-in_err-id-clause-asked : goal.returns-in_err-id-clause-asked
returns-in_err-id-clause-asked g c = asked_then g.K.Keeper c.args.engine.now c.loop-id.engine c.next.new.engine c.loop-id.invariant.asked c.next.ensures.asked

pub returns-in_default-clause-asked : goal.returns-in_default-clause-asked
returns-in_default-clause-asked g c = asked_then g.K.Keeper c.args.engine.now c.loop-id.engine c.next.new.engine c.loop-id.invariant.asked c.next.ensures.asked

pub returns-in_err-is_found-clause-asked : goal.returns-in_err-is_found-clause-asked
returns-in_err-is_found-clause-asked g c =
    asked_then g.K.Keeper c.args.engine.now c.next.new.engine c.is_found.new.engine (asked_then g.K.Keeper c.args.engine.now c.loop-id.engine c.next.new.engine c.loop-id.invariant.asked c.next.ensures.asked) c.is_found.ensures.asked

pub returns-then-branch-clause-asked : goal.returns-then-branch-clause-asked
returns-then-branch-clause-asked g c =
    asked_then g.K.Keeper c.args.engine.now c.next.new.engine c.is_found.new.engine (asked_then g.K.Keeper c.args.engine.now c.loop-id.engine c.next.new.engine c.loop-id.invariant.asked c.next.ensures.asked) c.is_found.ensures.asked

pub returns-then-branch-clause-told : goal.returns-then-branch-clause-told
returns-then-branch-clause-told g c = λ tables rests.
    let old = c.args.engine.now in
    let sought = c.args.sought.now in
    let ids = ids_in tables sought.model in
    let told = told_to old.held.models tables sought in
    let asked = asked_then g.K.Keeper old c.loop-id.engine c.next.new.engine c.loop-id.invariant.asked c.next.ensures.asked in
    let taken = (rw c.in-Some.is at c.in_ok-id.ensures.told) tables (rests_on g.K.Keeper old c.loop-id.engine tables c.loop-id.invariant.asked rests) in
    let found = told_back g.K.Keeper c.args.sought.now.by old c.next.new.engine (λ (told : Told). c.in_ok-is_found.field-0 ≡ is_known_found told sought c.in-Some.id) asked c.in_ok-is_found.ensures.told told (tells_tables_to g.K.Keeper c.args.sought.now.by old tables rests) in
    c.loop-id.invariant.told tables rests
    ∙ passes_next (is_known_found told sought) (ahead c.loop-id.walk ids) (ahead c.next.new.self ids) c.in-Some.id taken (sym found ∙ c.if-branch.true)

pub returns-then-branch-clause-known : goal.returns-then-branch-clause-known
returns-then-branch-clause-known g c =
    let sought = c.args.sought.now in
    told_on g.K.Keeper c.args.sought.now.by c.next.new.engine c.is_found.new.engine (λ (told : Told). told.knows sought.model c.in-Some.id ≡ true) c.is_found.ensures.asked
    (λ told tells. first_true (told.knows sought.model c.in-Some.id) (is_found told sought.by.user sought.model (sought_view sought) c.in-Some.id) (sym c.if-branch.true ∙ c.in_ok-is_found.ensures.told told tells))

pub loop-id-preserved : goal.loop-id-preserved
loop-id-preserved g c = record {
  asked = asked_then g.K.Keeper c.args.engine.now c.next.new.engine c.is_found.new.engine (asked_then g.K.Keeper c.args.engine.now c.loop-id.engine c.next.new.engine c.loop-id.invariant.asked c.next.ensures.asked) c.is_found.ensures.asked;
  told = λ tables rests.
      let old = c.args.engine.now in
      let sought = c.args.sought.now in
      let ids = ids_in tables sought.model in
      let told = told_to old.held.models tables sought in
      let asked = asked_then g.K.Keeper old c.loop-id.engine c.next.new.engine c.loop-id.invariant.asked c.next.ensures.asked in
      let taken = (rw c.in-Some.is at c.in_ok-id.ensures.told) tables (rests_on g.K.Keeper old c.loop-id.engine tables c.loop-id.invariant.asked rests) in
      let found = told_back g.K.Keeper c.args.sought.now.by old c.next.new.engine (λ (told : Told). c.in_ok-is_found.field-0 ≡ is_known_found told sought c.in-Some.id) asked c.in_ok-is_found.ensures.told told (tells_tables_to g.K.Keeper c.args.sought.now.by old tables rests) in
      c.loop-id.invariant.told tables rests
      ∙ fails_next (is_known_found told sought) (ahead c.loop-id.walk ids) (ahead c.next.new.self ids) c.in-Some.id taken (sym found ∙ c.if-branch.false);
  nearer = near_then (distance c.next.new.self) (distance c.loop-id.walk) (distance c.args.walk.now) (rw c.in-Some.is at c.in_ok-id.ensures.nearer) c.loop-id.invariant.nearer;
}
