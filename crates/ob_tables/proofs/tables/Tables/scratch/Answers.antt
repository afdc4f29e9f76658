use Rattle.std.proofs.Common.{◌≡◌, IfErr, IfOk, Ok, Result, subst}
use Rattle.std.proofs.lemmas.Result.{IfErr-weaker}
use Rattle.ob_base.specs.declared.id.Cell.{Cell}
use Rattle.ob_base.specs.declared.value.Value.{Value}
use Rattle.ob_expr.specs.Computing.{Lack}
use Rattle.ob_tables.specs.Faults.{HasNoValue}
use Rattle.ob_tables.specs.Settling.{Lacks, values_of}
use Rattle.ob_schema.specs.Tables.{Standing}
use Rattle.ob_schema.specs.Val.{val}
use Rattle.ob_tables.proofs.Settling.{lacks-has}
use Rattle.ob_tables.proofs.Within.{values_are}
use Rattle.ob_tables.proofs.tables.Tables.scratch.Goals as goal

pub returns-clause-value : goal.returns-clause-value
returns-clause-value c =
    let given = c.of.result.tables.now in
    subst (λ (s : Standing). IfOk c.value_of.result (λ v. val s.models s.tables c.args.cell ≡ Ok v)) c.of.ensures
    (subst (λ (f : Cell → Result Value Lack). IfOk c.value_of.result (λ v. f c.args.cell ≡ Ok v)) (values_are given.models given.tables) c.value_of.ensures.value)

pub returns-clause-fault : goal.returns-clause-fault
returns-clause-fault c =
    let given = c.of.result.tables.now in
    subst (λ (s : Standing). IfErr c.value_of.result (HasNoValue s.models s.tables c.args.cell)) c.of.ensures
    (IfErr-weaker c.value_of.result (Lacks (values_of given.models given.tables c.args.cell)) (HasNoValue given.models given.tables c.args.cell)
    (lacks-has given.models given.tables c.args.cell) c.value_of.ensures.fault)
