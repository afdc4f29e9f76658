-- The right, the ids, the rows, what is found in the object, and how all is judged.
use Rattle.std.proofs.Common.{◌≤◌, refl, arith}
use Rattle.std.proofs.lemmas.Result.{err_from_is_err_and, on_err_weaker, on_ok_weaker}
use Rattle.std.specs.Prelude.{⊤}
use Rattle.serde_json.specs.View.{view}
use Rattle.ob_cache.specs.Standing.{max_next_id}
use Rattle.ob_call.specs.Forms.{fields_at}
use Rattle.ob_call.specs.Places.{spot_place}
use Rattle.ob_commands.proofs.CallStops.{found-refused, lacks-refused, memory-refused, write-judged, write-stopped}
use Rattle.ob_commands.proofs.JudgedEdits.{settled-usable, whatever-refused}
use Rattle.ob_effect.proofs.CallerLemmas.{asks_edits, asks_keeps, edits_then, keeps_then, refused_later}
use Rattle.ob_commands.proofs.SettledCalls.{edits-come, edits-settle}
use Rattle.ob_commands.proofs.WriterPassed.{noted-at}
use Rattle.ob_commands.proofs.WrongObjects.{right-object}
use Rattle.ob_effect.specs.Effect.{Keeps, LacksRight}
use Rattle.ob_commands.specs.Making.{StopsWrite}
use Rattle.ob_commands.proofs.writing.change_rows.Goals as goal
use Rattle.ob_io.specs.Cause.{Rose}

-- ---- the ids

pub returns-in_err-missing-clause-kept : goal.returns-in_err-missing-clause-kept
returns-in_err-missing-clause-kept g c = whatever-refused c.from_residual.result (Keeps g.K.Keeper c.args.engine.now c.missing_id.new.engine) (asks_keeps g.K.Keeper _ _ c.missing_id.ensures.asked)

pub returns-in_err-relations-clause-kept : goal.returns-in_err-relations-clause-kept
returns-in_err-relations-clause-kept g c = whatever-refused c.from_residual-in_err-relations.result (Keeps g.K.Keeper c.args.engine.now c.missing_id.new.engine) (asks_keeps g.K.Keeper _ _ c.missing_id.ensures.asked)

-- ---- the rows

pub object_of-requires-clause-object : goal.object_of-requires-clause-object
object_of-requires-clause-object g c = right-object (fields_at c.args.engine.now.held.models c.args.call.now.model) (view c.args.change.now.vals.json.now) c.requires.form

pub returns-in_err-object-clause-kept : goal.returns-in_err-object-clause-kept
returns-in_err-object-clause-kept g c = whatever-refused c.from_residual-in_err-object.result (Keeps g.K.Keeper c.args.engine.now c.missing_id.new.engine) (asks_keeps g.K.Keeper _ _ c.missing_id.ensures.asked)

pub write_each-requires-clause-noted : goal.write_each-requires-clause-noted
write_each-requires-clause-noted g c =
    let mid = c.missing_id.new.engine in
    let low : max_next_id ≤ max_next_id = omega arith in
    c.new-notes.ensures.noted mid.held.models mid.held (c.missing_id.ensures.asked.same.next_ids max_next_id low c.requires.rest.next_ids)

pub returns-in_err-write_each-clause-kept : goal.returns-in_err-write_each-clause-kept
returns-in_err-write_each-clause-kept g c =
    whatever-refused c.from_residual-in_err-write_each.result (Keeps g.K.Keeper c.args.engine.now c.write_each.new.engine)
    (keeps_then g.K.Keeper _ _ _ (asks_keeps g.K.Keeper _ _ c.missing_id.ensures.asked) c.in_err-write_each.ensures.step.0)

pub returns-in_err-write_each-clause-refused : goal.returns-in_err-write_each-clause-refused
returns-in_err-write_each-clause-refused g c =
    let p = err_from_is_err_and c.from_residual-in_err-write_each.result c.from_residual-in_err-write_each.ensures.1 in
    let a = c.args.engine.now in let by = c.args.by in let change = c.args.change.now in
    let why = c.in_err-write_each.field-0.0 in
    let place = spot_place change.vals.spot in
    let faults = g.K.Keeper.faults in
    let old = faults a.keeper.now in let now = faults c.write_each.new.engine.keeper.now in
    let lacks = refused_later old (faults c.missing_id.new.engine.keeper.now) now c.missing_id.ensures.asked.count (LacksRight by) why c.in_err-write_each.ensures.step.1 in
    rw (p.1, p.2) (write-stopped g.K.Keeper by a place c.args.call.now.model change.ids.items (Rose old now) why (lacks-refused g.K.Keeper by a place (Rose old now) why lacks))

-- ---- what is found

pub returns-in_err-found-clause-kept : goal.returns-in_err-found-clause-kept
returns-in_err-found-clause-kept g c =
    whatever-refused c.from_residual-in_err-found.result (Keeps g.K.Keeper c.args.engine.now c.write_each.new.engine)
    (keeps_then g.K.Keeper _ _ _ (asks_keeps g.K.Keeper _ _ c.missing_id.ensures.asked) c.in_ok-write_each.ensures.step.0.keeps)

pub returns-in_err-found-clause-refused : goal.returns-in_err-found-clause-refused
returns-in_err-found-clause-refused g c =
    let p = err_from_is_err_and c.from_residual-in_err-found.result c.from_residual-in_err-found.ensures.1 in
    let change = c.args.change.now in
    rw (p.1, p.2) (memory-refused _ (StopsWrite g.K.Keeper c.args.by c.args.call.now.model change.ids.items c.args.engine.now (spot_place change.vals.spot)) c.in_err-found.field-0.0 c.in_err-found.ensures.causes)

pub returns-in_err-test_found-clause-kept : goal.returns-in_err-test_found-clause-kept
returns-in_err-test_found-clause-kept g c =
    whatever-refused c.from_residual-in_err-test_found.result (Keeps g.K.Keeper c.args.engine.now c.write_each.new.engine)
    (keeps_then g.K.Keeper _ _ _ (asks_keeps g.K.Keeper _ _ c.missing_id.ensures.asked) c.in_ok-write_each.ensures.step.0.keeps)

pub returns-in_err-test_found-clause-refused : goal.returns-in_err-test_found-clause-refused
returns-in_err-test_found-clause-refused g c =
    let p = err_from_is_err_and c.from_residual-in_err-test_found.result c.from_residual-in_err-test_found.ensures.1 in
    let a = c.args.engine.now in let by = c.args.by in let change = c.args.change.now in
    let place = spot_place change.vals.spot in
    rw (p.1, p.2) (write-stopped g.K.Keeper by a place c.args.call.now.model change.ids.items _ c.in_err-test_found.field-0.0
    (found-refused g.K.Keeper by a place _ c.in_err-test_found.field-0.0 c.in_err-test_found.ensures.causes))

-- ---- an id that no row has

pub returns-in-Some-clause-kept : goal.returns-in-Some-clause-kept
returns-in-Some-clause-kept g c = keeps_then g.K.Keeper _ _ _ (asks_keeps g.K.Keeper _ _ c.missing_id.ensures.asked) c.in_ok-write_each.ensures.step.0.keeps

pub returns-in-Some-clause-refused : goal.returns-in-Some-clause-refused
returns-in-Some-clause-refused g c = (refl, rw c.as_slice.ensures.value at rw c.in-Some.is at c.in_ok-missing.ensures.missing)

-- ---- how all is judged

pub settle-requires-clause-noted : goal.settle-requires-clause-noted
settle-requires-clause-noted g c =
    noted-at c.missing_id.new.engine.held.models c.write_each.new.engine.held.models _ c.write_each.new.engine.held c.in_ok-write_each.ensures.step.0.keeps.models c.in_ok-write_each.ensures.step.1

pub returns-clause-settled : goal.returns-clause-settled
returns-clause-settled g c =
    let a = c.args.engine.now in let b = c.write_each.new.engine in
    let edits = edits_then g.K.Keeper a c.missing_id.new.engine b (asks_edits g.K.Keeper a c.missing_id.new.engine (rw c.requires.rest.phase_is settled-usable) c.missing_id.ensures.asked) c.in_ok-write_each.ensures.step.0 in
    on_ok_weaker c.settle.result (λ is. edits-settle g.K.Keeper (λ _ _. ⊤) a b c.settle.new.engine edits (edits-come g.K.Keeper a b edits) is) c.settle.ensures.settled

pub returns-clause-kept : goal.returns-clause-kept
returns-clause-kept g c =
    on_err_weaker c.settle.result (λ kept. keeps_then g.K.Keeper _ _ _ (keeps_then g.K.Keeper _ _ _ (asks_keeps g.K.Keeper _ _ c.missing_id.ensures.asked) c.in_ok-write_each.ensures.step.0.keeps) kept) c.settle.ensures.kept

pub returns-clause-refused : goal.returns-clause-refused
returns-clause-refused g c =
    let a = c.args.engine.now in let b = c.write_each.new.engine in let change = c.args.change.now in
    let edits = edits_then g.K.Keeper a c.missing_id.new.engine b (asks_edits g.K.Keeper a c.missing_id.new.engine (rw c.requires.rest.phase_is settled-usable) c.missing_id.ensures.asked) c.in_ok-write_each.ensures.step.0 in
    write-judged g.K.Keeper c.args.by a (spot_place change.vals.spot) c.args.call.now.model change.ids.items c.settle.result b edits _ c.settle.ensures.refused
