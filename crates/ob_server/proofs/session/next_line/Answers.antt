use Rattle.std.proofs.Common.{ap, Err, length}
use Rattle.ob_server.proofs.ReadOn.{reads_on}
use Rattle.ob_server.proofs.ReadStops.{stops_at_end, stops_by_fault}
use Rattle.ob_server.proofs.session.next_line.Goals as goal

pub returns-in-Ok-true-clause-line : goal.returns-in-Ok-true-clause-line
returns-in-Ok-true-clause-line g c stream lines h =
    reads_on stream lines h (c.in-Ok-true.ensures.line c.in-Ok-true.field-0-test) c.advance.ensures.short c.advance.ensures.in_input _ _ _ (ap length c.line.ensures) c.consumed.ensures c.consumed-before.ensures

pub returns-in-Ok-false-clause-end : goal.returns-in-Ok-false-clause-end
returns-in-Ok-false-clause-end g c stream lines h =
    stops_at_end h (c.in-Ok-false.ensures.end c.in-Ok-false.field-0-test)

pub returns-in-Err-clause-end : goal.returns-in-Err-clause-end
returns-in-Err-clause-end g c stream lines h =
    let said = c.in-Err.ensures in
    let so = c.reading_fault.ensures in
    stops_by_fault c.in-Err.fault c.reading_fault.result c.advance.ensures.given.0 h c.advance.ensures.given.1 so.failed so.too_long so.no_memory
    (λ is. said.within (ap Err is)) (λ n is. said.number n (ap Err is)) (λ n is. said.too_long n (ap Err is))
