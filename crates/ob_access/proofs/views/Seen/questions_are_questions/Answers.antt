-- By induction over the questions.
use Rattle.ob_access.specs.Views.{viewer_of}
use Rattle.ob_access.proofs.Viewing.{fails-as_one, through-all}
use Rattle.ob_access.proofs.views.Seen.questions_are_questions.Goals as goal

pub returns-clause-asked : goal.returns-clause-asked
returns-clause-asked g c = through-all g.F.Facts.registry g.F.Facts.tells g.F.Facts.asks (λ it. it.facts.now) (λ it. it.facts.ghost_name) (λ it. viewer_of it.schema.now it.policy.now it.groups.now it.user)

pub returns-clause-failed : goal.returns-clause-failed
returns-clause-failed g c = fails-as_one g.F.Facts.registry g.F.Facts.tells g.F.Facts.asks g.F.Facts.has_failed (λ it. it.facts.now) (λ it. it.facts.ghost_name) (λ it. viewer_of it.schema.now it.policy.now it.groups.now it.user)
