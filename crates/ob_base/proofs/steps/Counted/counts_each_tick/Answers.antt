-- The laws of so many ticks, at the ledger that counts.
use Rattle.std.proofs.Common.{refl, arith}
use Rattle.ob_base.proofs.TallyLaws.{ticked_times-count, ticked_times-total}
use Rattle.ob_base.proofs.steps.Counted.counts_each_tick.Goals as goal

pub returns-clause-count : goal.returns-clause-count
returns-clause-count c = λ n tally. ticked_times-count _ n tally

pub returns-clause-total : goal.returns-clause-total
returns-clause-total c = λ n tally below. ticked_times-total _ (λ ledger. ledger.total) 18446744073709551615 (λ ledger. refl) n tally (omega arith)
