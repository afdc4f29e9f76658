use Rattle.std.proofs.Common.{List, subst}
use Rattle.std.specs.Prelude.{IfOk}
use Rattle.ob_base.specs.declared.id.Cell.{Cell}
use Rattle.ob_base.specs.declared.value.Value.{Value}
use Rattle.ob_audit.specs.Comparing.{IsFull}
use Rattle.ob_tables.specs.Applying.{IsFirstOrSound}
use Rattle.ob_audit.proofs.Reported.{broken-told, sound-told}
use Rattle.ob_audit.proofs.auditing.report_on.Goals as goal

pub returns-in_ok-broken_line-in-Some : goal.returns-in_ok-broken_line-in-Some
returns-in_ok-broken_line-in-Some c =
    let standing = c.args.rows.now.tables in
    let broken = c.in-Some.broken in
    broken-told c.args.schema.now standing c.requires.models c.args.rows.now.stored broken c.in_ok-broken_line-in-Some.field-0 c.short_report.result
    (subst (IsFirstOrSound standing.models standing.tables) c.in-Some.is c.in_ok-broken.ensures) c.in_ok-broken_line-in-Some.ensures c.short_report.ensures.lines c.short_report.ensures.equal

pub returns-in-None : goal.returns-in-None
returns-in-None c =
    let standing = c.args.rows.now.tables in
    sound-told c.args.schema.now standing c.requires.models c.args.rows.now.stored c.full_report.result
    (subst (IsFirstOrSound standing.models standing.tables) c.in-None.is c.in_ok-broken.ensures)
    (subst (λ (l : List (Cell × Value)). IfOk c.full_report.result (IsFull standing l)) c.as_slice.ensures c.full_report.ensures)
