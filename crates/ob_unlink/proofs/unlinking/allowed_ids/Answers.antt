use Rattle.std.proofs.Common.{sym, ◌∙◌}
use Rattle.std.proofs.lemmas.Result.{err_from_is_err_and}
use Rattle.ob_call.specs.Called.{called_by}
use Rattle.ob_unlink.proofs.UnlinkAnswer.{ItemsOf, named-allowed, named-withheld, named-wrong}
use Rattle.ob_unlink.specs.Unlink.{unlinked_ids}
use Rattle.ob_unlink.proofs.unlinking.allowed_ids.Goals as goal

pub returns-in_err-ids-clause-value : goal.returns-in_err-ids-clause-value
returns-in_err-ids-clause-value c = λ info.
    let p = err_from_is_err_and c.from_residual.result c.from_residual.ensures.1 in
    let call = c.args.call.now in
    rw (p.1, p.2) (named-wrong ItemsOf c.args.by.now call.model c.in_err-ids.field-0.0 (unlinked_ids (called_by call info)) (c.in_err-ids.ensures.value info))

pub returns-then-may-clause-value : goal.returns-then-may-clause-value
returns-then-may-clause-value c = λ info.
    let call = c.args.call.now in
    named-allowed ItemsOf c.args.by.now call.model c.in_ok-ids.ids (unlinked_ids (called_by call info)) (c.in_ok-ids.ensures.value info) (sym c.may.ensures ∙ c.if-may.true)

pub returns-else-may-clause-value : goal.returns-else-may-clause-value
returns-else-may-clause-value c = λ info.
    let call = c.args.call.now in
    named-withheld ItemsOf c.args.by.now call.model c.in_ok-ids.ids (unlinked_ids (called_by call info)) (c.in_ok-ids.ensures.value info) (sym c.may.ensures ∙ c.if-may.false)
