-- The right, the rows, what is found in the objects, and how all is judged.
use Rattle.std.proofs.lemmas.Result.{err_from_is_err_and}
use Rattle.serde_json.specs.View.{view}
use Rattle.ob_call.specs.Places.{spot_place}
use Rattle.ob_effect.proofs.CallerLemmas.{keeps_none, keeps_then}
use Rattle.ob_commands.proofs.CallStops.{found-refused, judged-refused, lacks-refused}
use Rattle.ob_commands.proofs.JudgedEdits.{whatever-refused}
use Rattle.ob_commands.proofs.SettledCalls.{edits-settle}
use Rattle.ob_commands.proofs.WriterPassed.{noted-at}
use Rattle.ob_commands.specs.Changes.{TellsFor}
use Rattle.ob_effect.specs.Effect.{Keeps}
use Rattle.ob_commands.proofs.creating.make_asked.Goals as goal

pub returns-in_err-relations-clause-kept : goal.returns-in_err-relations-clause-kept
returns-in_err-relations-clause-kept g c = whatever-refused c.from_residual.result (Keeps g.K.Keeper c.args.engine.now c.args.engine.now) (keeps_none g.K.Keeper c.args.engine.now)

pub make_told-requires-clause-noted : goal.make_told-requires-clause-noted
make_told-requires-clause-noted g c = c.new-notes.ensures.noted c.args.engine.now.held.models c.args.engine.now.held c.requires.rest.next_ids

pub returns-in_err-told-clause-kept : goal.returns-in_err-told-clause-kept
returns-in_err-told-clause-kept g c = whatever-refused c.from_residual-in_err-told.result (Keeps g.K.Keeper c.args.engine.now c.make_told.new.engine) c.in_err-told.ensures.step.0

pub returns-in_err-told-clause-refused : goal.returns-in_err-told-clause-refused
returns-in_err-told-clause-refused g c =
    let p = err_from_is_err_and c.from_residual-in_err-told.result c.from_residual-in_err-told.ensures.1 in
    rw (p.1, p.2) (lacks-refused g.K.Keeper c.args.by c.args.engine.now (spot_place c.args.vals.spot) _ c.in_err-told.field-0.0 c.in_err-told.ensures.step.1)

pub returns-in_err-test_found-clause-kept : goal.returns-in_err-test_found-clause-kept
returns-in_err-test_found-clause-kept g c = whatever-refused c.from_residual-in_err-test_found.result (Keeps g.K.Keeper c.args.engine.now c.make_told.new.engine) c.in_ok-told.ensures.step.0.keeps

pub returns-in_err-test_found-clause-refused : goal.returns-in_err-test_found-clause-refused
returns-in_err-test_found-clause-refused g c =
    let p = err_from_is_err_and c.from_residual-in_err-test_found.result c.from_residual-in_err-test_found.ensures.1 in
    rw (p.1, p.2) (found-refused g.K.Keeper c.args.by c.args.engine.now (spot_place c.args.vals.spot) _ c.in_err-test_found.field-0.0 c.in_err-test_found.ensures.causes)

pub settle-requires-clause-noted : goal.settle-requires-clause-noted
settle-requires-clause-noted g c =
    noted-at c.args.engine.now.held.models c.make_told.new.engine.held.models _ c.make_told.new.engine.held c.in_ok-told.ensures.step.0.keeps.models c.in_ok-told.ensures.step.1

pub returns-in_err-settle-clause-kept : goal.returns-in_err-settle-clause-kept
returns-in_err-settle-clause-kept g c =
    whatever-refused c.from_residual-in_err-settle.result (Keeps g.K.Keeper c.args.engine.now c.settle.new.engine) (keeps_then g.K.Keeper _ _ _ c.in_ok-told.ensures.step.0.keeps c.in_err-settle.ensures.kept)

pub returns-in_err-settle-clause-refused : goal.returns-in_err-settle-clause-refused
returns-in_err-settle-clause-refused g c =
    let p = err_from_is_err_and c.from_residual-in_err-settle.result c.from_residual-in_err-settle.ensures.1 in
    rw (p.1, p.2) (judged-refused g.K.Keeper c.args.by c.args.engine.now (spot_place c.args.vals.spot) c.make_told.new.engine c.in_ok-told.ensures.step.0 _ c.in_err-settle.field-0.0 c.in_err-settle.ensures.refused)

pub returns-clause-made : goal.returns-clause-made
returns-clause-made g c =
    edits-settle g.K.Keeper (λ old new. TellsFor c.args.call.now.model old new (view c.args.vals.json.now) (view c.in_ok-told.told)) c.args.engine.now c.make_told.new.engine c.settle.new.engine
    c.in_ok-told.ensures.step.0 c.in_ok-told.ensures.told c.in_ok-settle.ensures.settled
