use Rattle.std.proofs.Common.{◌≡◌, ◌∷◌, List, Option, None, Some, map, subst, true}
use Rattle.std.specs.Prelude.{IfSome}
use Rattle.ob_base.specs.declared.id.RecId.{RecId}
use Rattle.ob_query.proofs.CallerLemmas.{asked_then, rests_on, tells_tables_to, told_back_to, told_on_to}
use Rattle.ob_group.proofs.GatheredRows.{gathered-all, gathered-more, some-more}
use Rattle.ob_group.specs.GroupParts.{aggregate_view, asked_view, row_of, sort_keys_of}
use Rattle.ob_group.specs.declared.aggregates.Aggregate.{Aggregate}
use Rattle.ob_query.specs.Search.{held_of}
use Rattle.ob_query.specs.SearchParts.{found_ahead, told_to}
use Rattle.ob_query.specs.SearchQuestions.{IsTaken, TellsTo}
use Rattle.ob_schema.specs.Facts.{OfAllTold, Told}
use Rattle.ob_schema.specs.declared.info.ModelInfo.{ModelInfo}
use Rattle.ob_group.proofs.gathered.gathered_from.Goals as goal

pub row_values-requires-clause-known : goal.row_values-requires-clause-known
row_values-requires-clause-known g c =
    let model = c.args.asked.now.sought.model in
    told_on_to g.K.Keeper c.args.asked.now.sought.by c.next_found.new.engine c.keys_of_row.new.engine (λ (told : Told). told.knows model c.in-Some.id ≡ true) c.keys_of_row.ensures.asked
    (subst (λ (next : Option RecId). IfSome next (λ id. OfAllTold (TellsTo g.K.Keeper c.args.asked.now.sought.by c.next_found.new.engine) (λ told. told.knows model id ≡ true))) c.in-Some.is c.in_ok-id.ensures.known)

pub returns-in_err-id-clause-asked : goal.returns-in_err-id-clause-asked
returns-in_err-id-clause-asked g c = asked_then g.K.Keeper c.args.engine.now c.loop-groups.engine c.next_found.new.engine c.loop-groups.invariant.asked c.next_found.ensures.asked

pub returns-in_err-keys-clause-asked : goal.returns-in_err-keys-clause-asked
returns-in_err-keys-clause-asked g c =
    asked_then g.K.Keeper c.args.engine.now c.next_found.new.engine c.keys_of_row.new.engine (asked_then g.K.Keeper c.args.engine.now c.loop-groups.engine c.next_found.new.engine c.loop-groups.invariant.asked c.next_found.ensures.asked) c.keys_of_row.ensures.asked

pub returns-in_err-row-clause-asked : goal.returns-in_err-row-clause-asked
returns-in_err-row-clause-asked g c =
    let first = asked_then g.K.Keeper c.args.engine.now c.loop-groups.engine c.next_found.new.engine c.loop-groups.invariant.asked c.next_found.ensures.asked in
    let second = asked_then g.K.Keeper c.args.engine.now c.next_found.new.engine c.keys_of_row.new.engine first c.keys_of_row.ensures.asked in
    asked_then g.K.Keeper c.args.engine.now c.keys_of_row.new.engine c.row_values.new.engine second c.row_values.ensures.asked

pub returns-in_err-add-clause-asked : goal.returns-in_err-add-clause-asked
returns-in_err-add-clause-asked g c =
    let first = asked_then g.K.Keeper c.args.engine.now c.loop-groups.engine c.next_found.new.engine c.loop-groups.invariant.asked c.next_found.ensures.asked in
    let second = asked_then g.K.Keeper c.args.engine.now c.next_found.new.engine c.keys_of_row.new.engine first c.keys_of_row.ensures.asked in
    asked_then g.K.Keeper c.args.engine.now c.keys_of_row.new.engine c.row_values.new.engine second c.row_values.ensures.asked

pub returns-clause-asked : goal.returns-clause-asked
returns-clause-asked g c = asked_then g.K.Keeper c.args.engine.now c.loop-groups.engine c.next_found.new.engine c.loop-groups.invariant.asked c.next_found.ensures.asked

pub returns-clause-told : goal.returns-clause-told
returns-clause-told g c = λ tables rests.
    let old = c.args.engine.now in
    let asked = c.args.asked.now in
    let same = c.loop-groups.invariant.asked.same.models in
    let taken = subst (λ (models : List ModelInfo). IsTaken None (found_ahead models tables asked.sought c.loop-groups.walk) (found_ahead models tables asked.sought c.next_found.new.walk)) same
    ((rw c.in_default.is at c.in_ok-id.ensures.told) tables (rests_on g.K.Keeper old c.loop-groups.engine tables c.loop-groups.invariant.asked rests)) in
    gathered-all (held_of (told_to old.held.models tables asked.sought) asked.sought.model) (asked_view asked) (found_ahead old.held.models tables asked.sought c.args.walk.now) (found_ahead old.held.models tables asked.sought c.loop-groups.walk) c.loop-groups.groups
    taken.0 (c.loop-groups.invariant.told tables rests)

pub loop-groups-preserved : goal.loop-groups-preserved
loop-groups-preserved g c =
    let old = c.args.engine.now in
    let asked = c.args.asked.now in
    let id = c.in-Some.id in
    let first = asked_then g.K.Keeper old c.loop-groups.engine c.next_found.new.engine c.loop-groups.invariant.asked c.next_found.ensures.asked in
    let second = asked_then g.K.Keeper old c.next_found.new.engine c.keys_of_row.new.engine first c.keys_of_row.ensures.asked in
    record {
      asked = asked_then g.K.Keeper old c.keys_of_row.new.engine c.row_values.new.engine second c.row_values.ensures.asked;
      told = λ tables rests at.
          let told = told_to old.held.models tables asked.sought in
          let held = held_of told asked.sought.model in
          let taken = subst (λ (models : List ModelInfo). IsTaken (Some id) (found_ahead models tables asked.sought c.loop-groups.walk) (found_ahead models tables asked.sought c.next_found.new.walk)) c.loop-groups.invariant.asked.same.models
          ((rw c.in-Some.is at c.in_ok-id.ensures.told) tables (rests_on g.K.Keeper old c.loop-groups.engine tables c.loop-groups.invariant.asked rests)) in
          let keys = told_back_to g.K.Keeper c.args.asked.now.sought.by old c.next_found.new.engine (λ (told : Told). c.in_ok-keys.keys.items ≡ sort_keys_of (held_of told asked.sought.model) (asked_view asked) id) first c.in_ok-keys.ensures.told told (tells_tables_to g.K.Keeper c.args.asked.now.sought.by old tables rests) in
          let row = told_back_to g.K.Keeper c.args.asked.now.sought.by old c.keys_of_row.new.engine (λ (told : Told). c.in_ok-row.row.items ≡ row_of (held_of told asked.sought.model) (asked_view asked).aggregates id) second
          (subst (λ (aggregates : List Aggregate). OfAllTold (TellsTo g.K.Keeper c.args.asked.now.sought.by c.keys_of_row.new.engine) (λ (told : Told). c.in_ok-row.row.items ≡ row_of (held_of told asked.sought.model) (map aggregate_view aggregates) id))
          c.as_slice.ensures.value c.in_ok-row.ensures.told) told (tells_tables_to g.K.Keeper c.args.asked.now.sought.by old tables rests) in
          gathered-more held (asked_view asked) (found_ahead old.held.models tables asked.sought c.args.walk.now) (found_ahead old.held.models tables asked.sought c.loop-groups.walk) (found_ahead old.held.models tables asked.sought c.next_found.new.walk) id c.loop-groups.groups
          c.add.new.groups c.in_ok-keys.keys.items c.in_ok-row.row.items taken keys row c.in_ok-add.ensures.rows (c.loop-groups.invariant.told tables rests) at;
      some = some-more c.loop-groups.groups c.add.new.groups c.in_ok-keys.keys.items c.in_ok-row.row.items c.in_ok-add.ensures.rows c.in_ok-add.ensures.groups c.in_ok-keys.ensures.texts c.loop-groups.invariant.some;
    }
