-- Behind the question whether the row is known.
use Rattle.std.proofs.lemmas.Result.{err_from_is_err_and}
use Rattle.ob_schema.specs.Facts.{asked-then}
use Rattle.ob_domain.proofs.Asking.{fault_behind}
use Rattle.ob_domain.proofs.tree.stands_below.Goals as goal

pub returns-in_err-path-clause-fault : goal.returns-in_err-path-clause-fault
returns-in_err-path-clause-fault g c =
    let p = err_from_is_err_and c.from_residual-in_err-path.result c.from_residual-in_err-path.ensures.1 in
    rw (p.1, p.2) (fault_behind g.F.Facts.has_failed _ _ c.value_in.new.facts c.in_err-path.field-0.0 c.is_known.ensures.asked c.in_err-path.ensures.fault)

pub returns-in_err-path-clause-asked : goal.returns-in_err-path-clause-asked
returns-in_err-path-clause-asked g c = asked-then _ _ _ c.is_known.ensures.asked c.value_in.ensures.asked

pub returns-clause-asked : goal.returns-clause-asked
returns-clause-asked g c = asked-then _ _ _ c.is_known.ensures.asked c.value_in.ensures.asked
