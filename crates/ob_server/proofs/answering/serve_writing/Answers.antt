use Rattle.std.proofs.Common.{Err, ◌∙◌}
use Rattle.serde_json.specs.View.{view}
use Rattle.ob_cache.specs.Calls.{models_at, standpoint}
use Rattle.ob_server.specs.MethodCall.{handed_view}
use Rattle.ob_server.specs.Setup.{over}
use Rattle.ob_server.specs.Texts.{told}
use Rattle.ob_server.specs.declared.request.Method.TheVariants as method
use Rattle.ob_server.proofs.AnswerLaws.{known, known_model, refused_writing_serves, replies_kept, replies_refusal, tells_by, writing_serves}
use Rattle.ob_server.proofs.Counts.{Rose-earlier}
use Rattle.ob_server.proofs.answering.serve_writing.Goals as goal

pub returns-in-Ok-clause-served : goal.returns-in-Ok-clause-served
returns-in-Ok-clause-served g c =
    let terms = c.args.terms.now in
    let before = standpoint g.K.Keeper c.args.engine.now in
    let (info, is) = known_model _ c.requires.model in
    let is_called = known _ info _ is c.in-Ok.ensures.call in
    writing_serves terms before (standpoint g.K.Keeper c.make.new.engine) info c.args.layout c.args.call.now (view c.args.id.now) _ c.args.method is (view c.in-Ok.json) (standpoint g.K.Keeper c.keep.new.engine)
    (Rose-earlier _ _ _ is_called.count) is_called c.keep.ensures.kept

pub returns-in-Err-clause-served : goal.returns-in-Err-clause-served
returns-in-Err-clause-served g c =
    let terms = c.args.terms.now in
    let before = standpoint g.K.Keeper c.args.engine.now in
    let (info, is) = known_model _ c.requires.model in
    let is_called = known _ info _ is c.in-Err.ensures.call in
    refused_writing_serves terms before (standpoint g.K.Keeper c.make.new.engine) info c.args.layout c.args.call.now (view c.args.id.now) _ c.args.method is c.in-Err.refusal is_called
    (tells_by (models_at before) c.schema.result.now (view c.args.id.now) (told c.args.layout (Err c.in-Err.refusal)) _ (c.schema.ensures ∙ is_called.rests.models_are) c.call_refused.ensures)

pub returns-in-Ok-clause-causes : goal.returns-in-Ok-clause-causes
returns-in-Ok-clause-causes g c =
    let terms = c.args.terms.now in
    let before = standpoint g.K.Keeper c.args.engine.now in
    let (info, is) = known_model _ c.requires.model in
    let is_called = known _ info _ is c.in-Ok.ensures.call in
    replies_kept (over terms (models_at before)) _ _ c.args.call.now.now (view c.args.id.now) (handed_view c.args.layout (method.Writes c.args.method) c.args.call.now) (view c.in-Ok.json) _
    (Rose-earlier _ _ _ is_called.count) c.keep.ensures.causes

pub returns-in-Err-clause-causes : goal.returns-in-Err-clause-causes
returns-in-Err-clause-causes g c =
    let terms = c.args.terms.now in
    let before = standpoint g.K.Keeper c.args.engine.now in
    let (info, is) = known_model _ c.requires.model in
    let is_called = known _ info _ is c.in-Err.ensures.call in
    replies_refusal (over terms (models_at before)) _ c.args.call.now.now (view c.args.id.now) (handed_view c.args.layout (method.Writes c.args.method) c.args.call.now) info c.in-Err.refusal _ is is_called.causes
    (tells_by (models_at before) c.schema.result.now (view c.args.id.now) (told c.args.layout (Err c.in-Err.refusal)) _ (c.schema.ensures ∙ is_called.rests.models_are) c.call_refused.ensures)
