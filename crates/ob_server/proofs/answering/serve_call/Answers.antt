use Rattle.std.proofs.lemmas.Int.{to_z-of_z}
use Rattle.serde_json.specs.View.{view}
use Rattle.ob_server.specs.Setup.{over}
use Rattle.ob_server.specs.declared.request.Method.TheVariants as method
use Rattle.ob_server.proofs.AnswerLaws.{empty_object, named_or_none, replies_same, seen_as, serves_same}
use Rattle.ob_server.proofs.answering.serve_call.Goals as goal

pub returns-in-Reads-clause-served : goal.returns-in-Reads-clause-served
returns-in-Reads-clause-served g c =
    let terms = c.args.terms.now in
    let kw = named_or_none c.args.call.now.kw _ c.unwrap_or.result (empty_object c.new.result c.new.ensures.empty) c.unwrap_or.ensures in
    serves_same terms _ _ _ _ _ _ _ (to_z-of_z _ _ c.ranges.now) (seen_as (view c.args.id.now) c.args.call.now (method.Reads c.in-Reads.method) (view c.unwrap_or.result.now) c.in-Reads.is kw)
    c.serve_reading.ensures.served

pub returns-clause-served : goal.returns-clause-served
returns-clause-served g c =
    let terms = c.args.terms.now in
    let kw = named_or_none c.args.call.now.kw _ c.unwrap_or.result (empty_object c.new.result c.new.ensures.empty) c.unwrap_or.ensures in
    serves_same terms _ _ _ _ _ _ _ (to_z-of_z _ _ c.ranges.now) (seen_as (view c.args.id.now) c.args.call.now (method.Writes c.in-Writes.method) (view c.unwrap_or.result.now) c.in-Writes.is kw)
    c.serve_writing.ensures.served

pub returns-in-Reads-clause-causes : goal.returns-in-Reads-clause-causes
returns-in-Reads-clause-causes g c =
    let terms = c.args.terms.now in
    let kw = named_or_none c.args.call.now.kw _ c.unwrap_or.result (empty_object c.new.result c.new.ensures.empty) c.unwrap_or.ensures in
    replies_same (over terms c.args.engine.now.held.models) _ _ _ _ _ _ (to_z-of_z _ _ c.ranges.now) (seen_as (view c.args.id.now) c.args.call.now (method.Reads c.in-Reads.method) (view c.unwrap_or.result.now) c.in-Reads.is kw)
    c.serve_reading.ensures.causes

pub returns-clause-causes : goal.returns-clause-causes
returns-clause-causes g c =
    let terms = c.args.terms.now in
    let kw = named_or_none c.args.call.now.kw _ c.unwrap_or.result (empty_object c.new.result c.new.ensures.empty) c.unwrap_or.ensures in
    replies_same (over terms c.args.engine.now.held.models) _ _ _ _ _ _ (to_z-of_z _ _ c.ranges.now) (seen_as (view c.args.id.now) c.args.call.now (method.Writes c.in-Writes.method) (view c.unwrap_or.result.now) c.in-Writes.is kw)
    c.serve_writing.ensures.causes
