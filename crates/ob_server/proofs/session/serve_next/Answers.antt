use Rattle.std.proofs.Common.{refl, sym}
use Rattle.ob_server.proofs.SessionOn.{ends_reading, session_ending, no_write_fault, goes_on, ends_at_end, ends_writing, over_same, ok_holds, err_holds}
use Rattle.ob_server.proofs.Others.{others_same}
use Rattle.ob_server.proofs.session.serve_next.Goals as goal

pub returns-in-Err-clause-session : goal.returns-in-Err-clause-session
returns-in-Err-clause-session g c from h =
    ends_reading h c.in-Err.ending c.in-Err.ensures.end c.in-Err.ensures.whole_replies

pub returns-in-Err-clause-kind : goal.returns-in-Err-clause-kind
returns-in-Err-clause-kind g c = session_ending c.in-Err.ending c.in-Err.ensures.whole_replies

pub returns-in-Err-clause-write_fault : goal.returns-in-Err-clause-write_fault
returns-in-Err-clause-write_fault g c is =
    absurd (no_write_fault c.in-Err.ending c.in-Err.ensures.whole_replies cc)

pub returns-in-Err-clause-others : goal.returns-in-Err-clause-others
returns-in-Err-clause-others g c = others_same _ _ _ refl

pub returns-then-is_err-clause-session : goal.returns-then-is_err-clause-session
returns-then-is_err-clause-session g c from h =
    let failed = sym c.if-is_err.ensures.value in
    let said = c.serve_line.ensures in
    let stops = rw c.line.ensures at (err_holds c.serve_line.result failed said.err) in
    let body = rw c.line.ensures at (err_holds c.serve_line.result failed said.body) in
    over_same c.args.terms.now said.rests.models_are (ends_writing h c.in-Ok.whole c.next_line.new.reader c.next_line.new.reader.line _ c.in-Ok.ensures.line body stops)

pub returns-then-whole-clause-session : goal.returns-then-whole-clause-session
returns-then-whole-clause-session g c from h =
    let read = rw c.if-whole.true at c.in-Ok.ensures.line in
    let serves = rw c.line.ensures at (ok_holds c.serve_line.result (sym c.if-is_err.ensures.value) c.serve_line.ensures.ok) in
    goes_on h c.next_line.new.reader.line _ read serves

pub returns-else-whole-clause-session : goal.returns-else-whole-clause-session
returns-else-whole-clause-session g c from h =
    let read = rw c.if-whole.false at c.in-Ok.ensures.line in
    let serves = rw c.line.ensures at (ok_holds c.serve_line.result (sym c.if-is_err.ensures.value) c.serve_line.ensures.ok) in
    over_same c.args.terms.now c.serve_line.ensures.rests.models_are (ends_at_end h c.next_line.new.reader.line _ read serves)
