use Rattle.std.proofs.Common.{◌≡◌, Err, sym, ap, ◌∙◌}
use Rattle.std.proofs.lemmas.Result.{err_from_is_err_and}
use Rattle.ob_load.specs.declared.fault.LoadFault.TheVariants as load
use Rattle.ob_load.proofs.Told.{err_is}
use Rattle.ob_load.proofs.loading.with_meaning.Goals as goal

pub returns-in_err-policy-clause-fault : goal.returns-in_err-policy-clause-fault
returns-in_err-policy-clause-fault c = λ all own faulty same.
    let p = err_from_is_err_and c.from_residual.result c.from_residual.ensures.1 in
    let told : c.in_err-policy.field-0.0 ≡ load.Module faulty = sym p.2 ∙ err_is p.0 (load.Module faulty) (sym p.1 ∙ same) in
    c.in_err-policy.ensures.fault all own faulty (ap Err told)
