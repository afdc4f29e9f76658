-- What is read stands for a tree, and what stands for one is read.
use Rattle.ob_domain.proofs.ReadingOfTrees.{domain_taken}
use Rattle.ob_domain.proofs.TreesOfReading.{domain_read}
use Rattle.ob_domain.proofs.reading.one_domain.Goals as goal

pub returns-clause-read : goal.returns-clause-read
returns-clause-read c = λ models model d tree is. domain_read models model d tree is

pub returns-clause-taken : goal.returns-clause-taken
returns-clause-taken c = λ models model d tree stands few. domain_taken models model d tree stands few
