-- The item that came in, and what it was answered.
use Rattle.std.proofs.Common.{ap, sym, ◌∙◌, rules}
use Rattle.ob_http.specs.declared.inlet.Inlet.TheVariants as inlet
use Rattle.ob_server.specs.ExchangeSteps.{parting_behind}
use Rattle.ob_server.proofs.ExchangeItems.{cut_is_end, ended_is_end}
use Rattle.ob_server.proofs.ExchangeOn.{answered_on, ends_at_end, ends_failed, ends_refused, ends_unanswered, ends_wanting}
use Rattle.ob_server.proofs.connection.serve_item.Goals as goal

pub returns-then-is_err-clause-exchange : goal.returns-then-is_err-clause-exchange
returns-then-is_err-clause-exchange g c count first stream start h =
    let takes = c.in-Ok-Post.ensures.takes in
    let received = rw c.in-Ok-Post.field-0-is at takes.item in
    let answers = rw c.deref.ensures.value at c.answer_body.ensures.answers in
    ends_unanswered h takes c.in-Ok-Post.body c.in-Ok-Post.keep received c.answer_body.result _ c.answer_body.ensures.unread answers (sym c.if-is_err.ensures.value)

pub returns-else-is_err-clause-exchange : goal.returns-else-is_err-clause-exchange
returns-else-is_err-clause-exchange g c count first stream start h =
    let takes = c.in-Ok-Post.ensures.takes in
    let received = rw c.in-Ok-Post.field-0-is at takes.item in
    let answers = rw c.deref.ensures.value at c.answer_body.ensures.answers in
    answered_on h takes c.in-Ok-Post.body c.in-Ok-Post.keep received c.answer_body.result _ c.answer_body.ensures.unread answers (sym c.if-is_err.ensures.value) c.parting_after.result
    (c.parting_after.ensures ∙ ap (parting_behind c.in-Ok-Post.keep) c.taken.ensures) c.answer_body.ensures.rests.models_are

pub returns-in-Ok-Bad-clause-exchange : goal.returns-in-Ok-Bad-clause-exchange
returns-in-Ok-Bad-clause-exchange g c count first stream start h =
    let takes = c.in-Ok-Bad.ensures.takes in
    let received = rw c.in-Ok-Bad.field-0-is at takes.item in
    ends_refused h takes c.in-Ok-Bad.status c.refuse.result _ _ received c.refuse.ensures.wrote

pub returns-in-Ok-Ended-clause-exchange : goal.returns-in-Ok-Ended-clause-exchange
returns-in-Ok-Ended-clause-exchange g c count first stream start h =
    let takes = c.in-Ok-Ended.ensures.takes in
    let received = rw c.in-Ok-Ended.field-0-is at takes.item in
    ends_at_end h takes inlet.Ended ended_is_end received

pub returns-in-Ok-Cut-clause-exchange : goal.returns-in-Ok-Cut-clause-exchange
returns-in-Ok-Cut-clause-exchange g c count first stream start h =
    let takes = c.in-Ok-Cut.ensures.takes in
    let received = rw c.in-Ok-Cut.field-0-is at takes.item in
    ends_at_end h takes inlet.Cut cut_is_end received

pub returns-in-Err-Failed-clause-exchange : goal.returns-in-Err-Failed-clause-exchange
returns-in-Err-Failed-clause-exchange g c count first stream start h =
    let takes = c.in-Err-Failed.ensures.takes in
    ends_failed h takes (search rules)

pub returns-in-Err-NoMemory-clause-exchange : goal.returns-in-Err-NoMemory-clause-exchange
returns-in-Err-NoMemory-clause-exchange g c count first stream start h =
    let takes = c.in-Err-NoMemory.ensures.takes in
    ends_wanting h takes (search rules)
