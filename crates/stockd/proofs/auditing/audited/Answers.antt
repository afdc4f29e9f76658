-- The report is that on the rows that the keeper tells, and of it this was written.
use Rattle.std.proofs.Common.{[], refl}
use Rattle.ob_audit.specs.Report.{IsReport}
use Rattle.ob_io.specs.Store.{Store}
use Rattle.ob_server.proofs.CallerLemmas.{nothing_written, reason_weaker}
use Rattle.stockd.proofs.ReportWritten.{at_told, report_told}
use Rattle.stockd.proofs.auditing.audited.Goals as goal

pub returns-in-Ok-clause-told : goal.returns-in-Ok-clause-told
returns-in-Ok-clause-told g c = λ store kept.
    report_told _ store c.in-Ok.report _ _ _ _ (at_told (λ (s : Store). IsReport c.args.schema.now s c.in-Ok.report) store _ kept c.in-Ok.ensures.report) c.report_written.ensures.told

pub returns-in-Ok-clause-reason : goal.returns-in-Ok-clause-reason
returns-in-Ok-clause-reason g c =
    reason_weaker _ _ _ _ _ _ _ _ c.report_written.result (λ a. a) (λ i. i) (λ o. o) (λ k. absurd k) c.report_written.ensures.reason

pub returns-in-Err-Keeper-clause-told : goal.returns-in-Err-Keeper-clause-told
returns-in-Err-Keeper-clause-told g c = λ store kept. ([], (rw c.in-Err-Keeper.field-0-is at c.in-Err-Keeper.ensures.fault, refl), nothing_written _)

pub returns-in-Err-NoMemory-clause-told : goal.returns-in-Err-NoMemory-clause-told
returns-in-Err-NoMemory-clause-told g c = λ store kept. ([], refl, nothing_written _)
