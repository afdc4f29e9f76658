-- The links so far are such as a keeper answers.
use Rattle.ob_sqlite.specs.Links.{AreLinks}
use Rattle.ob_sqlite.proofs.answers.links_of.Given as goal

abbrev pub invariant-loop-row : goal.invariant-loop-row
invariant-loop-row l = AreLinks l.links
