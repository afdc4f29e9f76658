use Rattle.std.proofs.Common.{◌≡◌, IfErr, IfOk, Ok, ap, sym, subst, ◌∙◌}
use Rattle.ob_tables.specs.Settling.{Lacks}
use Rattle.ob_tables.proofs.Settling.{behind-set, behind-there, behind-unset, link-there}
use Rattle.ob_tables.proofs.Within.{AreSound}
use Rattle.ob_tables.proofs.reading.Given.value_behind.Goals as goal

pub unreachable-requires : goal.unreachable-requires
unreachable-requires c =
    let models = c.args.self.now.tables.now.models in
    let tables = c.args.self.now.tables.now.tables in
    let known : AreSound models tables =
    record { laws = record { along = c.laws.ensures.meaning; lacks = c.laws.ensures.lacks }; registry = c.laws.ensures.registry; fits = c.laws.ensures.fits; tied = c.requires.tied } in
    link-there models tables known c.args.cell c.args.info.now c.args.at c.requires.row c.requires.field c.requires.delegated (sym c.in_ok-value.ensures ∙ c.in_default.is)

pub own_value-requires-clause-field : goal.own_value-requires-clause-field
own_value-requires-clause-field c =
    let models = c.args.self.now.tables.now.models in
    let tables = c.args.self.now.tables.now.tables in
    let known : AreSound models tables =
    record { laws = record { along = c.laws.ensures.meaning; lacks = c.laws.ensures.lacks }; registry = c.laws.ensures.registry; fits = c.laws.ensures.fits; tied = c.requires.tied } in
    (behind-there models tables known c.args.cell c.args.info.now c.args.at c.in-Some.value c.in-Some-row_named.id c.requires.row c.requires.field c.requires.delegated
    (sym c.in_ok-value.ensures ∙ c.in-Some.is) (sym c.row_named.ensures ∙ c.in-Some-row_named.is)).1

pub own_value-requires-clause-row : goal.own_value-requires-clause-row
own_value-requires-clause-row c =
    let models = c.args.self.now.tables.now.models in
    let tables = c.args.self.now.tables.now.tables in
    let known : AreSound models tables =
    record { laws = record { along = c.laws.ensures.meaning; lacks = c.laws.ensures.lacks }; registry = c.laws.ensures.registry; fits = c.laws.ensures.fits; tied = c.requires.tied } in
    (behind-there models tables known c.args.cell c.args.info.now c.args.at c.in-Some.value c.in-Some-row_named.id c.requires.row c.requires.field c.requires.delegated
    (sym c.in_ok-value.ensures ∙ c.in-Some.is) (sym c.row_named.ensures ∙ c.in-Some-row_named.is)).0

pub returns-in-Some-row_named-clause-value : goal.returns-in-Some-row_named-clause-value
returns-in-Some-row_named-clause-value c =
    let models = c.args.self.now.tables.now.models in
    let tables = c.args.self.now.tables.now.tables in
    let known : AreSound models tables =
    record { laws = record { along = c.laws.ensures.meaning; lacks = c.laws.ensures.lacks }; registry = c.laws.ensures.registry; fits = c.laws.ensures.fits; tied = c.requires.tied } in
    let same = behind-set models tables known c.args.cell c.args.info.now c.args.at c.in-Some.value c.in-Some-row_named.id c.requires.row c.requires.field c.requires.delegated
    (sym c.in_ok-value.ensures ∙ c.in-Some.is) (sym c.row_named.ensures ∙ c.in-Some-row_named.is) in
    subst (λ m. IfOk c.own_value.result (λ v. m ≡ Ok v)) (sym same) c.own_value.ensures.value

pub returns-in-Some-row_named-clause-fault : goal.returns-in-Some-row_named-clause-fault
returns-in-Some-row_named-clause-fault c =
    let models = c.args.self.now.tables.now.models in
    let tables = c.args.self.now.tables.now.tables in
    let known : AreSound models tables =
    record { laws = record { along = c.laws.ensures.meaning; lacks = c.laws.ensures.lacks }; registry = c.laws.ensures.registry; fits = c.laws.ensures.fits; tied = c.requires.tied } in
    let same = behind-set models tables known c.args.cell c.args.info.now c.args.at c.in-Some.value c.in-Some-row_named.id c.requires.row c.requires.field c.requires.delegated
    (sym c.in_ok-value.ensures ∙ c.in-Some.is) (sym c.row_named.ensures ∙ c.in-Some-row_named.is) in
    subst (λ m. IfErr c.own_value.result (Lacks m)) (sym same) c.own_value.ensures.fault

pub returns-clause-value : goal.returns-clause-value
returns-clause-value c =
    let models = c.args.self.now.tables.now.models in
    let tables = c.args.self.now.tables.now.tables in
    let known : AreSound models tables =
    record { laws = record { along = c.laws.ensures.meaning; lacks = c.laws.ensures.lacks }; registry = c.laws.ensures.registry; fits = c.laws.ensures.fits; tied = c.requires.tied } in
    behind-unset models tables known c.args.cell c.args.info.now c.args.at c.in-Some.value c.requires.row c.requires.field c.requires.delegated
    (sym c.in_ok-value.ensures ∙ c.in-Some.is) (sym c.row_named.ensures ∙ c.in-None.is) ∙ ap Ok (sym c.initial_value.ensures)
