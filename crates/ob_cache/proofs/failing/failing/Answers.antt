use Rattle.std.proofs.Common.{subst, sym, ◌∙◌}
use Rattle.ob_cache.specs.Behind.{AreKnown}
use Rattle.ob_cache.specs.Failing.{TellsStep}
use Rattle.ob_change.specs.Changing.{models_of}
use Rattle.ob_schema.specs.Tables.{Standing}
use Rattle.ob_cache.proofs.failing.failing.Goals as goal

pub know_read-requires : goal.know_read-requires
know_read-requires c = record { right = subst (λ (s : Standing). AreKnown s.models s.tables c.args.held.now) (sym (c.loop-read.invariant ∙ c.requires.source)) c.requires.known }

pub step_from-requires-clause-source : goal.step_from-requires-clause-source
step_from-requires-clause-source c = c.know_read.ensures ∙ c.loop-read.invariant ∙ c.requires.source

pub returns-in-Fails-clause-fails : goal.returns-in-Fails-clause-fails
returns-in-Fails-clause-fails c = subst (TellsStep (models_of c.args.change) c.args.change.behind.now.tables c.loop-read.at) c.in-Fails.is c.in_ok-kind.ensures.step

pub loop-read-preserved : goal.loop-read-preserved
loop-read-preserved c = c.step_from.ensures.same ∙ c.know_read.ensures ∙ c.loop-read.invariant
