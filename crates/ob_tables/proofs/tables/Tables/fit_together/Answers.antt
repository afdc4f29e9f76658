use Rattle.std.proofs.Common.{subst}
use Rattle.ob_schema.specs.Models.{IsRegistry}
use Rattle.ob_schema.specs.Tables.{Fits, Standing}
use Rattle.ob_tables.proofs.tables.Tables.fit_together.Goals as goal

pub returns-clause-registry : goal.returns-clause-registry
returns-clause-registry c = subst (λ (s : Standing). IsRegistry s.models) c.self.view_is c.parts_fit_together.ensures

pub returns-clause-fits : goal.returns-clause-fits
returns-clause-fits c = subst (λ (s : Standing). Fits s.models s.tables) c.self.view_is c.self.invariant.fits
