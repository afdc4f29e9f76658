use Rattle.ob_schema.proofs.Questions.{asked-flat, failed-flat}
use Rattle.ob_schema.proofs.facts.questions_of_questions.Goals as goal

pub returns-clause-asked : goal.returns-clause-asked
returns-clause-asked g c = λ first now asked. asked-flat first now asked

pub returns-clause-failed : goal.returns-clause-failed
returns-clause-failed g c = λ first now why failed. failed-flat g.F.Facts.asks g.F.Facts.has_failed first now why failed
