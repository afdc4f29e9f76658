use Rattle.std.proofs.Common.{◌≡◌, Some, None, sym}
use Rattle.std.specs.BTreeMap as tree
use Rattle.ob_base.specs.BrokenOrder.{cell_order}
use Rattle.ob_tables.specs.Finding.{BreaksIn, Is, is_of_formulas}
use Rattle.ob_tables.proofs.Finds.{finds-none}
use Rattle.ob_tables.proofs.FormulaBreaks.{no-outcome-breaks}
use Rattle.ob_tables.proofs.Settling.{outcome_of}
use Rattle.ob_tables.proofs.Within.{AreSound}
use Rattle.ob_tables.proofs.formulas.find_in_cell.Goals as goal

pub find_in_outcome-requires-clause-outcome : goal.find_in_outcome-requires-clause-outcome
find_in_outcome-requires-clause-outcome c =
    let models = c.args.given.now.tables.now.models in
    let t = c.args.given.now.tables.now.tables in
    let known : AreSound models t =
    record { laws = record { along = c.laws.ensures.meaning; lacks = c.laws.ensures.lacks }; registry = c.laws.ensures.registry; fits = c.laws.ensures.fits; tied = c.requires.tied } in
    let gets : tree.get cell_order c.settle.new.outcomes c.args.cell ≡ Some c.in-Some.outcome.now = sym c.in-Some.ensures.value in
    outcome_of models t known c.settle.new.outcomes c.in_ok-settle.ensures.right c.args.cell c.in-Some.outcome.now gets

pub returns-in_default-clause-found : goal.returns-in_default-clause-found
returns-in_default-clause-found c =
    let models = c.args.given.now.tables.now.models in
    let t = c.args.given.now.tables.now.tables in
    let none : tree.get cell_order c.settle.new.outcomes c.args.cell ≡ None = sym c.in_default.ensures.value in
    finds-none (BreaksIn models t is_of_formulas (Is c.args.cell)) c.args.findings.now (no-outcome-breaks models t c.laws.ensures.registry c.settle.new.outcomes c.args.cell c.in_ok-settle.ensures.settled none)
