use Rattle.std.proofs.Common.{true, refl}
use Rattle.ob_expr.specs.Meaning.{meaning, row_of}
use Rattle.ob_expr.specs.TypedTree.{typed_tree_of}
use Rattle.ob_schema.specs.Limited.{limited}
use Rattle.ob_tables.specs.Settling.{held_in}
use Rattle.ob_tables.specs.declared.outcome.Reason.TheVariants as reason
use Rattle.ob_tables.proofs.Kinded.{tree-holds}
use Rattle.ob_tables.proofs.Settling.{fault-overflow, fault-too_long, fault-zero_divisor, fault-read, gives-value, its_formula, lacks-as, lacks-one, lacks-own}
use Rattle.ob_tables.proofs.Within.{AreSound}
use Rattle.ob_tables.proofs.reading.Given.evaluate.Goals as goal

pub formula_value-requires-clause-kinded : goal.formula_value-requires-clause-kinded
formula_value-requires-clause-kinded c =
    let models = c.args.self.now.tables.now.models in
    let tables = c.args.self.now.tables.now.tables in
    let known : AreSound models tables =
    record { laws = record { along = c.laws.ensures.meaning; lacks = c.laws.ensures.lacks }; registry = c.laws.ensures.registry; fits = c.laws.ensures.fits; tied = c.requires.tied } in
    (its_formula models tables known c.args.cell c.args.info.now c.args.formula.now c.requires.row c.requires.field c.requires.computed).kinded

pub formula_value-requires-clause-readable : goal.formula_value-requires-clause-readable
formula_value-requires-clause-readable c =
    let held = held_in c.args.self.now.tables.now.models c.args.self.now.tables.now.tables c.args.outcomes.now in
    c.laws.ensures.reads (typed_tree_of c.args.formula.now.typed) held (λ _. true) (row_of c.args.cell) (λ _ _. refl)

pub formula_value-requires-clause-held : goal.formula_value-requires-clause-held
formula_value-requires-clause-held c =
    let models = c.args.self.now.tables.now.models in
    let tables = c.args.self.now.tables.now.tables in
    let known : AreSound models tables =
    record { laws = record { along = c.laws.ensures.meaning; lacks = c.laws.ensures.lacks }; registry = c.laws.ensures.registry; fits = c.laws.ensures.fits; tied = c.requires.tied } in
    tree-holds models tables c.laws.ensures.registry c.laws.ensures.fits c.args.outcomes.now c.requires.right c.args.cell.model (typed_tree_of c.args.formula.now.typed)
    (its_formula models tables known c.args.cell c.args.info.now c.args.formula.now c.requires.row c.requires.field c.requires.computed).by_refs

pub reason_at-requires : goal.reason_at-requires
reason_at-requires c =
    let models = c.args.self.now.tables.now.models in
    let tables = c.args.self.now.tables.now.tables in
    let known : AreSound models tables =
    record { laws = record { along = c.laws.ensures.meaning; lacks = c.laws.ensures.lacks }; registry = c.laws.ensures.registry; fits = c.laws.ensures.fits; tied = c.requires.tied } in
    let held = held_in models tables c.args.outcomes.now in
    let means = limited c.args.info.now.field_type (meaning held (row_of c.args.cell) (typed_tree_of c.args.formula.now.typed)) in
    lacks-one models tables known c.args.cell c.args.info.now c.args.formula.now c.requires.row c.requires.field c.requires.computed
    c.args.outcomes.now c.requires.right c.requires.settled c.in-Err-Read-NoValue.other
    (fault-read held _ means c.in-Err-Read-NoValue.field-0 c.in-Err-Read-NoValue.field-0-0 c.in-Err-Read-NoValue.other c.in-Err-Read-NoValue.ensures.kept
    c.in-Err-Read-NoValue.field-0-is c.in-Err-Read-NoValue.field-0-0-is c.in-Err-Read-NoValue.ensures.fault)

pub returns-in-Ok : goal.returns-in-Ok
returns-in-Ok c =
    let models = c.args.self.now.tables.now.models in
    let tables = c.args.self.now.tables.now.tables in
    let known : AreSound models tables =
    record { laws = record { along = c.laws.ensures.meaning; lacks = c.laws.ensures.lacks }; registry = c.laws.ensures.registry; fits = c.laws.ensures.fits; tied = c.requires.tied } in
    gives-value models tables known c.args.cell c.args.info.now c.args.formula.now c.requires.row c.requires.field c.requires.computed
    c.args.outcomes.now c.requires.right c.requires.settled c.in-Ok.value c.in-Ok.ensures.value c.in-Ok.ensures.kind

pub returns-in-Err-Overflow : goal.returns-in-Err-Overflow
returns-in-Err-Overflow c =
    let models = c.args.self.now.tables.now.models in
    let tables = c.args.self.now.tables.now.tables in
    let known : AreSound models tables =
    record { laws = record { along = c.laws.ensures.meaning; lacks = c.laws.ensures.lacks }; registry = c.laws.ensures.registry; fits = c.laws.ensures.fits; tied = c.requires.tied } in
    let held = held_in models tables c.args.outcomes.now in
    let means = limited c.args.info.now.field_type (meaning held (row_of c.args.cell) (typed_tree_of c.args.formula.now.typed)) in
    lacks-own models tables known c.args.cell c.args.info.now c.args.formula.now c.requires.row c.requires.field c.requires.computed
    c.args.outcomes.now c.requires.right c.requires.settled reason.Overflow
    (fault-overflow _ held means c.in-Err-Overflow.field-0 c.in-Err-Overflow.field-0-is c.in-Err-Overflow.ensures.fault)

pub returns-in-Err-TooLong : goal.returns-in-Err-TooLong
returns-in-Err-TooLong c =
    let models = c.args.self.now.tables.now.models in
    let tables = c.args.self.now.tables.now.tables in
    let known : AreSound models tables =
    record { laws = record { along = c.laws.ensures.meaning; lacks = c.laws.ensures.lacks }; registry = c.laws.ensures.registry; fits = c.laws.ensures.fits; tied = c.requires.tied } in
    let held = held_in models tables c.args.outcomes.now in
    let means = limited c.args.info.now.field_type (meaning held (row_of c.args.cell) (typed_tree_of c.args.formula.now.typed)) in
    lacks-own models tables known c.args.cell c.args.info.now c.args.formula.now c.requires.row c.requires.field c.requires.computed
    c.args.outcomes.now c.requires.right c.requires.settled reason.TooLong
    (fault-too_long _ held means c.in-Err-TooLong.field-0 c.in-Err-TooLong.field-0-is c.in-Err-TooLong.ensures.fault)

pub returns-in-Err-ZeroDivisor : goal.returns-in-Err-ZeroDivisor
returns-in-Err-ZeroDivisor c =
    let models = c.args.self.now.tables.now.models in
    let tables = c.args.self.now.tables.now.tables in
    let known : AreSound models tables =
    record { laws = record { along = c.laws.ensures.meaning; lacks = c.laws.ensures.lacks }; registry = c.laws.ensures.registry; fits = c.laws.ensures.fits; tied = c.requires.tied } in
    let held = held_in models tables c.args.outcomes.now in
    let means = limited c.args.info.now.field_type (meaning held (row_of c.args.cell) (typed_tree_of c.args.formula.now.typed)) in
    lacks-own models tables known c.args.cell c.args.info.now c.args.formula.now c.requires.row c.requires.field c.requires.computed
    c.args.outcomes.now c.requires.right c.requires.settled reason.ZeroDivisor
    (fault-zero_divisor _ held means c.in-Err-ZeroDivisor.field-0 c.in-Err-ZeroDivisor.field-0-is c.in-Err-ZeroDivisor.ensures.fault)

pub returns-in-Err-Read-NoValue : goal.returns-in-Err-Read-NoValue
returns-in-Err-Read-NoValue c =
    let models = c.args.self.now.tables.now.models in
    let tables = c.args.self.now.tables.now.tables in
    let known : AreSound models tables =
    record { laws = record { along = c.laws.ensures.meaning; lacks = c.laws.ensures.lacks }; registry = c.laws.ensures.registry; fits = c.laws.ensures.fits; tied = c.requires.tied } in
    let held = held_in models tables c.args.outcomes.now in
    let means = limited c.args.info.now.field_type (meaning held (row_of c.args.cell) (typed_tree_of c.args.formula.now.typed)) in
    lacks-as models tables known c.args.cell c.args.info.now c.args.formula.now c.requires.row c.requires.field c.requires.computed
    c.args.outcomes.now c.requires.right c.requires.settled c.in-Err-Read-NoValue.other c.reason_at.result
    (fault-read held _ means c.in-Err-Read-NoValue.field-0 c.in-Err-Read-NoValue.field-0-0 c.in-Err-Read-NoValue.other c.in-Err-Read-NoValue.ensures.kept
    c.in-Err-Read-NoValue.field-0-is c.in-Err-Read-NoValue.field-0-0-is c.in-Err-Read-NoValue.ensures.fault) c.reason_at.ensures
