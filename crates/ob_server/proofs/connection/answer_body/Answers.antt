-- The reply is that of a step, and it was written under status 200, or a front of it.
use Rattle.ob_server.proofs.BodyAnswered.{body_answered, wrote_either}
use Rattle.ob_server.proofs.connection.answer_body.Goals as goal

pub returns-clause-answers : goal.returns-clause-answers
returns-clause-answers g c first state =
    let said = rw (← c.as_str.ensures, ← c.as_bytes.ensures.value) at c.answer-reply.ensures in
    body_answered c.args.terms.now _ _ c.args.body.now c.as_bytes.result.now c.args.keep c.write_reply.result first said.count (wrote_either _ _ _ c.write_reply.result c.write_reply.ensures.ok c.write_reply.ensures.err) state said.served
