use Rattle.std.proofs.lemmas.Result.{err_from_is_err_and}
use Rattle.ob_rows.proofs.MissingRows.{fault_refuses, row-told}
use Rattle.ob_rows.proofs.there.is_there.Goals as goal

pub returns-clause-told : goal.returns-clause-told
returns-clause-told g c =
    let old = c.args.engine.now in
    row-told (g.K.Keeper.kept old.keeper.now) old.held c.requires.rest c.args.model c.args.id c.in_ok-has_row.field-0 c.in_ok-has_row.ensures.there

pub returns-in_err-has_row-clause-causes : goal.returns-in_err-has_row-clause-causes
returns-in_err-has_row-clause-causes g c =
    let p = err_from_is_err_and c.from_residual.result c.from_residual.ensures.1 in
    let faults = g.K.Keeper.faults in
    rw (p.1, p.2) (fault_refuses (faults c.args.engine.now.keeper.now) (faults c.has_row.new.self.keeper.now) c.has_row.result c.in_err-has_row.field-0.0 c.in_err-has_row.was c.has_row.ensures.cause)
