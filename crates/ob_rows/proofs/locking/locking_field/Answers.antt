-- The condition stands behind the named fields.
use Rattle.std.proofs.Common.{sym, ◌∙◌}
use Rattle.ob_rows.proofs.LockFields.{lock-none, lock-number, lock-there}
use Rattle.ob_rows.proofs.locking.locking_field.Goals as goal

pub returns-in_err-place-clause-number : goal.returns-in_err-place-clause-number
returns-in_err-place-clause-number c =
    rw c.from_residual.ensures (lock-none c.args.schema.now c.args.model c.model_info-info.result.now c.model_info-info.ensures.at (sym c.locking_place.ensures.place ∙ c.in_err-place.was))

pub returns-clause-number : goal.returns-clause-number
returns-clause-number c =
    rw c.len.ensures (lock-number c.args.schema.now c.args.model c.model_info-info.result.now c.model_info-info.ensures.at c.in_ok-place.place (sym c.locking_place.ensures.place ∙ c.in_ok-place.was))

pub returns-clause-there : goal.returns-clause-there
returns-clause-there c =
    let within = rw c.in_ok-place.was at c.locking_place.ensures.within in
    rw c.len.ensures (lock-there c.args.schema.now c.args.model c.model_info-info.result.now c.model_info-info.ensures.at c.in_ok-place.place (sym c.locking_place.ensures.place ∙ c.in_ok-place.was) within)
