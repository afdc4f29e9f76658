-- One more line is a blank one, the request line, a field or the last one.
use Rattle.std.proofs.Common.{◌∙◌, sym, arith, refl}
use Rattle.ob_http.proofs.SoFarLaws.{blank_line, request_line, field_line, last_line, few_fields}
use Rattle.ob_http.proofs.lines.LinesSoFar.take.Goals as goal

pub returns-then-length-eq0-clause-head : goal.returns-then-length-eq0-clause-head
returns-then-length-eq0-clause-head c =
    last_line c.in-Some.line c.requires.so_far c.requires.at c.in-Some.is (sym c.text_length-length.ensures ∙ c.if-length-eq0.true)

pub overflow_add-self-in-Some : goal.overflow_add-self-in-Some
overflow_add-self-in-Some c =
    omega (arith, few_fields c.in-Some.line c.requires.so_far c.requires.at c.in-Some.is)

pub returns-then-length-gt0-clause-more : goal.returns-then-length-gt0-clause-more
returns-then-length-gt0-clause-more c none =
    (request_line c.text_length-length.result c.requires.so_far c.requires.at c.in-None.is c.text_length-length.ensures c.if-length-gt0.true, refl)

pub returns-else-length-gt0-clause-more : goal.returns-else-length-gt0-clause-more
returns-else-length-gt0-clause-more c none =
    (blank_line c.requires.so_far c.requires.at c.in-None.is (omega (arith, c.text_length-length.ensures, c.if-length-gt0.false)), refl)

pub returns-else-length-eq0-clause-more : goal.returns-else-length-eq0-clause-more
returns-else-length-eq0-clause-more c none =
    (field_line c.in-Some.line c.requires.so_far c.requires.at c.in-Some.is (omega (arith, c.text_length-length.ensures, c.if-length-eq0.false)), refl)
