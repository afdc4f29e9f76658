use Rattle.ob_server.proofs.ServedOn.{serves_more, stops_at, on_ok, on_err}
use Rattle.ob_server.proofs.session.serve_body.Goals as goal

pub returns-clause-ok : goal.returns-clause-ok
returns-clause-ok g c =
    let said = rw (← c.as_str.ensures) at c.answer-reply.ensures in
    on_ok c.write_line.result c.write_line.ensures.ok
    (serves_more c.args.terms.now _ _ c.args.body.now c.as_str.result.now (record { served = said.served; models_are = said.rests.models_are; count = said.count; others = said.others }))

pub returns-clause-err : goal.returns-clause-err
returns-clause-err g c =
    let said = rw (← c.as_str.ensures) at c.answer-reply.ensures in
    on_err c.write_line.result c.write_line.ensures.err
    (stops_at c.args.terms.now _ _ c.args.body.now c.as_str.result.now (record { served = said.served; models_are = said.rests.models_are; count = said.count; others = said.others }))
