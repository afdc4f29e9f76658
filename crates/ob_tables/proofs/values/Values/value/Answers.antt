use Rattle.std.proofs.Common.{◌≡◌, IfErr, IfOk, Ok, Result, subst}
use Rattle.std.proofs.lemmas.Result.{IfErr-weaker}
use Rattle.ob_base.specs.declared.id.Cell.{Cell}
use Rattle.ob_base.specs.declared.value.Value.{Value}
use Rattle.ob_expr.specs.Computing.{Lack}
use Rattle.ob_tables.specs.Faults.{HasNoValue}
use Rattle.ob_tables.specs.Settling.{Lacks, values_of}
use Rattle.ob_schema.specs.Tables.{Standing}
use Rattle.ob_schema.specs.Val.{val}
use Rattle.ob_tables.proofs.Settling.{lacks-has}
use Rattle.ob_tables.proofs.Within.{values_are}
use Rattle.ob_tables.proofs.values.Values.value.Goals as goal

pub returns-then-is_err-clause-fault : goal.returns-then-is_err-clause-fault
returns-then-is_err-clause-fault c =
    let given = c.self.inside.given.tables.now in
    subst (λ (s : Standing). IfErr c.value_of-told.result (HasNoValue s.models s.tables c.args.cell)) c.self.view_is
    (IfErr-weaker c.value_of-told.result (Lacks (values_of given.models given.tables c.args.cell)) (HasNoValue given.models given.tables c.args.cell)
    (lacks-has given.models given.tables c.args.cell) c.value_of-told.ensures.fault)

pub returns-else-is_err-clause-value : goal.returns-else-is_err-clause-value
returns-else-is_err-clause-value c =
    let given = c.self.inside.given.tables.now in
    subst (λ (s : Standing). IfOk c.value_of-told.result (λ v. val s.models s.tables c.args.cell ≡ Ok v)) c.self.view_is
    (subst (λ (f : Cell → Result Value Lack). IfOk c.value_of-told.result (λ v. f c.args.cell ≡ Ok v)) (values_are given.models given.tables) c.value_of-told.ensures.value)
