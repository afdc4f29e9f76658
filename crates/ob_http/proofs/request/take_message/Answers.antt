-- A head that isn't served is a fault, and behind one that is come the interim line and the body.
use Rattle.std.proofs.Common.{[], refl, ap, ◌∙◌, Ok, Err}
use Rattle.std.proofs.lemmas.Result.{err_from_is_err_and}
use Rattle.ob_http.specs.Connection.{ReadAhead}
use Rattle.ob_http.specs.declared.inlet.HttpFault.TheVariants.{Failed}
use Rattle.ob_http.specs.declared.inlet.Inlet.TheVariants.{Post, Cut}
use Rattle.ob_http.proofs.ReadingOn.{sent_nothing}
use Rattle.ob_http.proofs.ItemLaws.{fault_of_asks}
use Rattle.ob_http.proofs.MessageLaws.{receives_fault, behind_head, sent_behind, asked_held, receives_body, receives_cut, stops_in_body, stops_in_interim, wanting_in_body}
use Rattle.ob_http.proofs.TakingLaws.{takes_item, takes_fault, takes_none}
use Rattle.ob_http.proofs.request.take_message.Goals as goal

pub returns-in-Err-clause-takes : goal.returns-in-Err-clause-takes
returns-in-Err-clause-takes g c =
    let asked = asked_held (Err c.in-Err.status) c.args.head.size c.bytes.ensures.value c.in-Err.ensures c.requires.head c.requires.head_is in
    takes_fault c.in-Err.status (fault_of_asks _ c.requires.head c.in-Err.status asked) (sent_nothing _ _ refl refl c.bytes.ensures.counted)
    (receives_fault _ _ c.requires c.bytes.ensures.few c.in-Err.status asked refl)

pub returns-in_err-write_due-clause-takes : goal.returns-in_err-write_due-clause-takes
returns-in_err-write_due-clause-takes g c =
    let asked = asked_held (Ok c.in-Ok.message) c.args.head.size c.bytes.ensures.value c.in-Ok.ensures c.requires.head c.requires.head_is in
    let p = err_from_is_err_and c.from_residual.result c.from_residual.ensures.1 in
    takes_none c.from_residual.result Failed (p.1 ∙ ap Err p.2)
    (sent_nothing _ _ c.write_due.ensures.others.1 (ap (λ (a : ReadAhead). a.taken) c.pass.ensures.passes) c.bytes.ensures.counted)
    (λ failed. stops_in_interim _ _ [] c.in-Ok.message c.requires c.bytes.ensures.few asked c.in_err-write_due.ensures.err.0 c.in_err-write_due.ensures.err.1)
    (λ wanting. absurd (cc))

pub returns-in_err-body-clause-takes : goal.returns-in_err-body-clause-takes
returns-in_err-body-clause-takes g c =
    let asked = asked_held (Ok c.in-Ok.message) c.args.head.size c.bytes.ensures.value c.in-Ok.ensures c.requires.head c.requires.head_is in
    let takes = c.in_err-body.ensures.takes in
    let p = err_from_is_err_and c.from_residual-in_err-body.result c.from_residual-in_err-body.ensures.1 in
    let h = behind_head c.args.head c.in-Ok.message.interim c.pass.ensures.passes c.write_due.ensures.others.1 c.in_ok-write_due.ensures.ok in
    takes_none c.from_residual-in_err-body.result c.in_err-body.field-0.0 (p.1 ∙ ap Err p.2) (sent_behind h takes.reads)
    (λ failed. stops_in_body _ _ _ c.in-Ok.message c.requires c.bytes.ensures.few asked h takes.reads (takes.failed (ap Err failed)))
    (λ wanting. wanting_in_body _ _ _ c.in-Ok.message c.requires c.bytes.ensures.few asked h takes.reads)

pub returns-in-Some-clause-takes : goal.returns-in-Some-clause-takes
returns-in-Some-clause-takes g c =
    let asked = asked_held (Ok c.in-Ok.message) c.args.head.size c.bytes.ensures.value c.in-Ok.ensures c.requires.head c.requires.head_is in
    let takes = c.in_ok-body.ensures.takes in
    let h = behind_head c.args.head c.in-Ok.message.interim c.pass.ensures.passes c.write_due.ensures.others.1 c.in_ok-write_due.ensures.ok in
    takes_item (Post c.in-Some.body c.in-Ok.message.keep) (λ status is. absurd (cc)) (sent_behind h takes.reads)
    (receives_body _ _ _ c.in-Ok.message (Post c.in-Some.body c.in-Ok.message.keep) c.in-Some.body.items c.requires c.bytes.ensures.few asked h takes.reads
    (rw c.in-Some.is at takes.body) (λ found same. (same, refl)))

pub returns-in-None-clause-takes : goal.returns-in-None-clause-takes
returns-in-None-clause-takes g c =
    let asked = asked_held (Ok c.in-Ok.message) c.args.head.size c.bytes.ensures.value c.in-Ok.ensures c.requires.head c.requires.head_is in
    let takes = c.in_ok-body.ensures.takes in
    let h = behind_head c.args.head c.in-Ok.message.interim c.pass.ensures.passes c.write_due.ensures.others.1 c.in_ok-write_due.ensures.ok in
    takes_item Cut (λ status is. absurd (cc)) (sent_behind h takes.reads)
    (receives_cut _ _ _ c.in-Ok.message c.requires c.bytes.ensures.few asked h takes.reads (rw c.in-None.is at takes.body))
