-- It keeps that its policy is one over the facts' registry.
use Rattle.ob_access.proofs.Once.{seen_by}
use Rattle.ob_access.proofs.views.SeenFacts.known.Goals as goal

pub sees-requires-clause-over : goal.sees-requires-clause-over
sees-requires-clause-over g c = (seen_by (g.F.Facts.registry c.args.self.now.facts.now) c.args.self.now.policy.now c.args.self.now.schema.now c.args.self.now.fit).over
