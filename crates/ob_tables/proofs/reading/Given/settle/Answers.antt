use Rattle.ob_tables.proofs.Within.{AreSound, within-enough}
use Rattle.ob_tables.proofs.reading.Given.settle.Goals as goal

pub settle_within-requires-clause-within : goal.settle_within-requires-clause-within
settle_within-requires-clause-within c =
    let known : AreSound c.args.self.now.tables.now.models c.args.self.now.tables.now.tables =
    record { laws = record { along = c.laws.ensures.meaning; lacks = c.laws.ensures.lacks }; registry = c.laws.ensures.registry; fits = c.laws.ensures.fits; tied = c.requires.tied } in
    within-enough c.args.self.now.tables.now.models c.args.self.now.tables.now.tables known c.args.cell
