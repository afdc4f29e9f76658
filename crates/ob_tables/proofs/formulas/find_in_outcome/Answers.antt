use Rattle.std.proofs.Common.{true, subst}
use Rattle.ob_base.specs.declared.refusal.BrokenKind.{BrokenKind}
use Rattle.ob_tables.specs.Finding.{Finds}
use Rattle.ob_tables.specs.Settling.{IsOutcomeOf}
use Rattle.ob_tables.specs.declared.outcome.Outcome.{Outcome}
use Rattle.ob_tables.proofs.FormulaBreaks.{Found, inherited-found, own-found, value-found}
use Rattle.ob_tables.proofs.Within.{AreSound}
use Rattle.ob_tables.proofs.formulas.find_in_outcome.Goals as goal

pub returns-in-Own : goal.returns-in-Own
returns-in-Own c =
    let models = c.args.given.now.tables.now.models in
    let t = c.args.given.now.tables.now.tables in
    let known : AreSound models t =
    record { laws = record { along = c.laws.ensures.meaning; lacks = c.laws.ensures.lacks }; registry = c.laws.ensures.registry; fits = c.laws.ensures.fits; tied = c.requires.tied } in
    let is = subst (λ (o : Outcome). IsOutcomeOf models t c.args.cell o) c.in-Own.is c.requires.outcome in
    own-found models t known c.args.cell c.in-Own.reason is c.args.findings.now c.add_if.new.findings
    (subst (λ (k : BrokenKind). Finds (Found c.args.cell true k) c.args.findings.now c.add_if.new.findings) c.broken_by.ensures c.add_if.ensures)

pub returns-in-Value : goal.returns-in-Value
returns-in-Value c =
    let models = c.args.given.now.tables.now.models in
    let t = c.args.given.now.tables.now.tables in
    let known : AreSound models t =
    record { laws = record { along = c.laws.ensures.meaning; lacks = c.laws.ensures.lacks }; registry = c.laws.ensures.registry; fits = c.laws.ensures.fits; tied = c.requires.tied } in
    let is = subst (λ (o : Outcome). IsOutcomeOf models t c.args.cell o) c.in-Value.is c.requires.outcome in
    value-found models t known c.args.cell c.in-Value.value is c.is_false_check-is_broken.result c.is_false_check-is_broken.ensures c.args.findings.now c.add_if-in-Value.new.findings c.add_if-in-Value.ensures

pub returns-in-Inherited : goal.returns-in-Inherited
returns-in-Inherited c =
    let models = c.args.given.now.tables.now.models in
    let t = c.args.given.now.tables.now.tables in
    let known : AreSound models t =
    record { laws = record { along = c.laws.ensures.meaning; lacks = c.laws.ensures.lacks }; registry = c.laws.ensures.registry; fits = c.laws.ensures.fits; tied = c.requires.tied } in
    inherited-found models t known c.args.cell c.in-Inherited.field-0 (subst (λ (o : Outcome). IsOutcomeOf models t c.args.cell o) c.in-Inherited.is c.requires.outcome) c.args.findings.now
