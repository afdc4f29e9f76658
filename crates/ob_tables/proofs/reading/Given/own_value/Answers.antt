use Rattle.std.proofs.Common.{◌≡◌, None, Ok, Some, Err, ap, sym, subst, ◌∙◌}
use Rattle.std.specs.Option.{option_copied}
use Rattle.std.specs.BTreeMap as tree
use Rattle.ob_base.specs.BrokenOrder.{cell_order}
use Rattle.ob_expr.specs.Meaning.{value_at}
use Rattle.ob_tables.specs.Settling.{Lacks, lack_for}
use Rattle.ob_tables.specs.declared.outcome.Outcome.TheVariants as outcome
use Rattle.ob_tables.proofs.Settling.{given-there, given-value, got-value, none-given}
use Rattle.ob_tables.proofs.Within.{AreSound}
use Rattle.ob_tables.proofs.reading.Given.own_value.Goals as goal

pub returns-in_ok-try_clone-in-Some-Value-clause-value : goal.returns-in_ok-try_clone-in-Some-Value-clause-value
returns-in_ok-try_clone-in-Some-Value-clause-value c =
    let models = c.args.self.now.tables.now.models in
    let tables = c.args.self.now.tables.now.tables in
    let known : AreSound models tables =
    record { laws = record { along = c.laws.ensures.meaning; lacks = c.laws.ensures.lacks }; registry = c.laws.ensures.registry; fits = c.laws.ensures.fits; tied = c.requires.tied } in
    let gets : tree.get cell_order c.settle.new.outcomes c.args.cell ≡ Some (outcome.Value c.in-Some-Value.value) = sym c.get.ensures.value ∙ ap option_copied c.in-Some-Value.is ∙ ap Some c.in-Some-Value.field-0-is in
    got-value models tables known c.settle.new.outcomes c.in_ok-settle.ensures.right c.args.cell (outcome.Value c.in-Some-Value.value) gets ∙ ap Ok (sym (c.in_ok-try_clone-in-Some-Value.ensures ∙ c.in-Some-Value.value-is))

pub returns-in-Some-Own-clause-fault : goal.returns-in-Some-Own-clause-fault
returns-in-Some-Own-clause-fault c =
    let models = c.args.self.now.tables.now.models in
    let tables = c.args.self.now.tables.now.tables in
    let known : AreSound models tables =
    record { laws = record { along = c.laws.ensures.meaning; lacks = c.laws.ensures.lacks }; registry = c.laws.ensures.registry; fits = c.laws.ensures.fits; tied = c.requires.tied } in
    let gets : tree.get cell_order c.settle.new.outcomes c.args.cell ≡ Some (outcome.Own c.in-Some-Own.reason) = sym c.get.ensures.value ∙ ap option_copied c.in-Some-Own.is ∙ ap Some c.in-Some-Own.field-0-is in
    subst (λ m. Lacks m c.fault_for.result) (sym (got-value models tables known c.settle.new.outcomes c.in_ok-settle.ensures.right c.args.cell (outcome.Own c.in-Some-Own.reason) gets))
    (subst (λ r. Lacks (Err (lack_for r)) c.fault_for.result) c.in-Some-Own.reason-is c.fault_for.ensures)

pub returns-in-Some-Inherited-clause-fault : goal.returns-in-Some-Inherited-clause-fault
returns-in-Some-Inherited-clause-fault c =
    let models = c.args.self.now.tables.now.models in
    let tables = c.args.self.now.tables.now.tables in
    let known : AreSound models tables =
    record { laws = record { along = c.laws.ensures.meaning; lacks = c.laws.ensures.lacks }; registry = c.laws.ensures.registry; fits = c.laws.ensures.fits; tied = c.requires.tied } in
    let gets : tree.get cell_order c.settle.new.outcomes c.args.cell ≡ Some (outcome.Inherited c.in-Some-Inherited.reason) = sym c.get.ensures.value ∙ ap option_copied c.in-Some-Inherited.is ∙ ap Some c.in-Some-Inherited.field-0-is in
    subst (λ m. Lacks m c.fault_for-in-Some-Inherited.result) (sym (got-value models tables known c.settle.new.outcomes c.in_ok-settle.ensures.right c.args.cell (outcome.Inherited c.in-Some-Inherited.reason) gets))
    (subst (λ r. Lacks (Err (lack_for r)) c.fault_for-in-Some-Inherited.result) c.in-Some-Inherited.reason-is c.fault_for-in-Some-Inherited.ensures)

pub returns-in-Some-clause-value : goal.returns-in-Some-clause-value
returns-in-Some-clause-value c =
    let models = c.args.self.now.tables.now.models in
    let tables = c.args.self.now.tables.now.tables in
    let known : AreSound models tables =
    record { laws = record { along = c.laws.ensures.meaning; lacks = c.laws.ensures.lacks }; registry = c.laws.ensures.registry; fits = c.laws.ensures.fits; tied = c.requires.tied } in
    let none : tree.get cell_order c.settle.new.outcomes c.args.cell ≡ None = sym c.get.ensures.value ∙ ap option_copied c.in-None.is in
    let given = none-given models tables known c.settle.new.outcomes c.in_ok-settle.ensures.right c.args.cell c.requires.field c.in_ok-settle.ensures.settled none in
    given-value models tables known c.args.cell given.0 c.requires.row given.1 given.2 ∙ ap (value_at c.args.cell) (sym c.in_ok-value-in-None.ensures ∙ c.in-Some.is)

pub unreachable-requires : goal.unreachable-requires
unreachable-requires c =
    let models = c.args.self.now.tables.now.models in
    let tables = c.args.self.now.tables.now.tables in
    let known : AreSound models tables =
    record { laws = record { along = c.laws.ensures.meaning; lacks = c.laws.ensures.lacks }; registry = c.laws.ensures.registry; fits = c.laws.ensures.fits; tied = c.requires.tied } in
    let none : tree.get cell_order c.settle.new.outcomes c.args.cell ≡ None = sym c.get.ensures.value ∙ ap option_copied c.in-None.is in
    let given = none-given models tables known c.settle.new.outcomes c.in_ok-settle.ensures.right c.args.cell c.requires.field c.in_ok-settle.ensures.settled none in
    given-there models tables known c.args.cell given.0 c.requires.row given.1 given.2 (sym c.in_ok-value-in-None.ensures ∙ c.in-None-2.is)
