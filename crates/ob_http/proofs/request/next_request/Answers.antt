-- What the front of the bytes is tells the item, or a head whose message is taken.
use Rattle.std.proofs.Common.{◌∙◌, ap, inl, Err}
use Rattle.std.proofs.lemmas.Result.{err_from_is_err_and}
use Rattle.ob_http.specs.declared.lines.Front.TheVariants as front
use Rattle.ob_http.proofs.FrontLaws.{front_is}
use Rattle.ob_http.proofs.ConnectionLaws.{stops_in_front, reads_only}
use Rattle.ob_http.proofs.TakingLaws.{takes_none, takes_after, takes_too_long, takes_ended, takes_cut}
use Rattle.ob_http.proofs.request.next_request.Goals as goal

pub returns-in_err-head-clause-takes : goal.returns-in_err-head-clause-takes
returns-in_err-head-clause-takes g c =
    let read = c.in_err-head.ensures.reads in
    let p = err_from_is_err_and c.from_residual.result c.from_residual.ensures.1 in
    takes_none c.from_residual.result c.in_err-head.field-0.0 (p.1 ∙ ap Err p.2) read.reads.sent
    (λ failed. let stops = read.failed (ap Err failed) in stops_in_front read.reads stops.0 stops.1)
    (λ wanting. inl (reads_only read.reads))

pub returns-in-Head-clause-takes : goal.returns-in-Head-clause-takes
returns-in-Head-clause-takes g c =
    let read = front_is (front.Head c.in-Head.head) c.in-Head.is c.in_ok-head.ensures.reads in
    takes_after _ c.take_message.result read.reads read.front.0 c.take_message.ensures.takes

pub returns-in-TooLong-clause-takes : goal.returns-in-TooLong-clause-takes
returns-in-TooLong-clause-takes g c =
    let read = front_is front.TooLong c.in-TooLong.is c.in_ok-head.ensures.reads in
    takes_too_long read.reads read.front.0 read.front.1 c.read_front.ensures.few

pub returns-in-Empty-clause-takes : goal.returns-in-Empty-clause-takes
returns-in-Empty-clause-takes g c =
    let read = front_is front.Empty c.in-Empty.is c.in_ok-head.ensures.reads in
    takes_ended read.reads read.front.0 read.front.1

pub returns-in-Part-clause-takes : goal.returns-in-Part-clause-takes
returns-in-Part-clause-takes g c =
    let read = front_is front.Part c.in-Part.is c.in_ok-head.ensures.reads in
    takes_cut read.reads read.front.0 read.front.1
