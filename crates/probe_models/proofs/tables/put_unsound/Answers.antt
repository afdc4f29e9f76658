-- Where a formula is broken, rows can be followed.
use Rattle.std.proofs.Common.{subst, sym}
use Rattle.ob_schema.specs.Tables.{Standing}
use Rattle.ob_schema.specs.Tied.{IsTied}
use Rattle.ob_tables.specs.After.{after}
use Rattle.probe_models.proofs.tables.put_unsound.Goals as goal

pub put_answers-requires-clause-tied : goal.put_answers-requires-clause-tied
put_answers-requires-clause-tied c = λ tied.
    let models = c.args.tables.now.models in
    let made = after models c.args.tables.now.tables c.args.then.now in
    subst (λ (t : Standing). IsTied t.models t.tables) {x = record { models = models; tables = made }} (sym {b = record { models = models; tables = made }} c.in-Ok.ensures)
    (c.is_of_formulas-is_tied.ensures tied models made c.args.broken.cell c.requires.first.there)
