use Rattle.std.proofs.Common.{[], ◌∷◌, List, ℕ, ap, subst, ◌∙◌}
use Rattle.std.specs.Prelude.{codes}
use Rattle.ob_audit.specs.Reading.{StopsStore}
use Rattle.ob_io.specs.Cause.{Rose}
use Rattle.ob_audit.proofs.Reported.{told-report, unread-report}
use Rattle.ob_audit.proofs.auditing.audit.Goals as goal

pub returns-in_ok-report_on-in-Ok-clause-report : goal.returns-in_ok-report_on-in-Ok-clause-report
returns-in_ok-report_on-in-Ok-clause-report g c =
    let rows = c.in-Ok.rows in
    told-report c.args.schema.now (g.K.Keeper.kept c.args.keeper.now) rows.tables.tables rows.stored c.in_ok-report_on-in-Ok.field-0 c.in-Ok.ensures.plain c.in-Ok.ensures.stored c.in_ok-report_on-in-Ok.ensures

pub returns-in_ok-short_report-in-Err-Unreadable-clause-report : goal.returns-in_ok-short_report-in-Err-Unreadable-clause-report
returns-in_ok-short_report-in-Err-Unreadable-clause-report g c =
    let stops = StopsStore c.args.schema.now (g.K.Keeper.kept c.args.keeper.now) (Rose (g.K.Keeper.faults c.args.keeper.now) (g.K.Keeper.faults c.read_store.new.keeper)) in
    unread-report c.args.schema.now (g.K.Keeper.kept c.args.keeper.now) c.in-Err-Unreadable.cell c.in_ok-short_report-in-Err-Unreadable.field-0
    (subst stops c.in-Err-Unreadable.field-0-is c.in-Err-Unreadable.ensures.fault)
    (c.in_ok-short_report-in-Err-Unreadable.ensures.lines ∙ ap (λ (l : List ℕ). l ∷ codes "audit differs" ∷ []) c.in_ok-unreadable_line-in-Err-Unreadable.ensures) c.in_ok-short_report-in-Err-Unreadable.ensures.equal
