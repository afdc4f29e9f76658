use Rattle.std.proofs.Common.{◌≡◌, ◌≤◌, Some, get_or, option_map, arith, ap, sym, subst, ◌∙◌}
use Rattle.std.proofs.lemmas.List.{take_all}
use Rattle.ob_base.specs.declared.id.Cell.{Cell}
use Rattle.ob_schema.specs.declared.info.Origin.TheVariants as origin
use Rattle.ob_schema.specs.Models.{field_at}
use Rattle.ob_tables.specs.Settling.{IsFormulaOutcome}
use Rattle.ob_schema.specs.Tables.{Standing}
use Rattle.ob_tables.proofs.KnownFields.{tell_and}
use Rattle.ob_tables.proofs.NamedBack.{Stands}
use Rattle.ob_tables.proofs.Settling.{all-settled, along-own, end_is-along, insert-keeps, insert-right, settled-more, stands-item}
use Rattle.ob_tables.proofs.Within.{AreSound, within-fewer, within-some}
use Rattle.ob_tables.proofs.reading.Given.+settle_within.Goals as goal

pub loop-end-init : goal.loop-end-init
loop-end-init t c = record { right = c.requires.right; kept = λ _ there. there; done = λ d none. absurd none; items = c.as_slice-end-items.ensures.value ∙ c.in_ok-ends.ensures }

pub overflow_sub-chain : goal.overflow_sub-chain
overflow_sub-chain t c = within-some c.args.self.now.tables.now.models c.args.self.now.tables.now.tables c.args.chain c.args.cell c.requires.within

pub settle_within-requires : goal.settle_within-requires
settle_within-requires t c =
    let models = c.args.self.now.tables.now.models in
    let tables = c.args.self.now.tables.now.tables in
    let known : AreSound models tables =
    record { laws = record { along = c.laws.ensures.meaning; lacks = c.laws.ensures.lacks }; registry = c.laws.ensures.registry; fits = c.laws.ensures.fits; tied = c.requires.tied } in
    let at : field_at models c.args.cell.model c.args.cell.field ≡ Some c.in-Some.info.now =
    sym (ap (λ (s : Standing). field_at s.models c.args.cell.model c.args.cell.field) c.tables.view_is) ∙ sym c.find_field.ensures ∙ ap (option_map (λ i. i.now)) c.in-Some.is in
    let from : c.in-Some.info.now.origin ≡ origin.Computed c.in-Computed.formula = c.in-Computed.is in
    let items = c.as_slice-end-items.result.now in
    let i = c.loop-end.end-index in
    let none : Cell = record { model = record { 0 = 0 }; id = record { 0 = 0 }; field = record { 0 = 0 } } in
    let end = get_or items i none in
    let along = end_is-along models tables known c.args.cell c.in-Some.info.now c.in-Computed.formula c.requires.row at from end (subst (Stands end) c.loop-end.invariant.items (stands-item items i none c.loop-end-test.true)) in
    let own = along-own models tables known c.args.cell c.in-Some.info.now c.in-Computed.formula c.requires.row at from end along in
    let some : 1 ≤ c.args.chain = within-some models tables c.args.chain c.args.cell c.requires.within in (
      omega arith,
      (
        own.0,
        (
          c.requires.tied,
          (
            c.loop-end.invariant.right,
            within-fewer models tables c.args.chain c.args.cell c.in-Some.info.now c.in-Computed.formula c.requires.within c.requires.row at from end along,
          ),
        ),
      ),
    )

pub loop-end-preserved : goal.loop-end-preserved
loop-end-preserved t c =
    let items = c.as_slice-end-items.result.now in
    let i = c.loop-end.end-index in
    let none : Cell = record { model = record { 0 = 0 }; id = record { 0 = 0 }; field = record { 0 = 0 } } in
    record {
      right = c.in_ok-settle_within.ensures.right;
      kept = λ q there. c.in_ok-settle_within.ensures.kept q (c.loop-end.invariant.kept q there);
      done = settled-more c.args.self.now.tables.now.models c.args.self.now.tables.now.tables c.loop-end.outcomes c.settle_within.new.outcomes items i none c.loop-end-test.true
          c.in_ok-settle_within.ensures.kept c.loop-end.invariant.done c.in_ok-settle_within.ensures.settled;
      items = c.loop-end.invariant.items;
    }

pub evaluate-requires-clause-right : goal.evaluate-requires-clause-right
evaluate-requires-clause-right t c = c.loop-end.invariant.right

pub evaluate-requires-clause-settled : goal.evaluate-requires-clause-settled
evaluate-requires-clause-settled t c =
    let models = c.args.self.now.tables.now.models in
    let tables = c.args.self.now.tables.now.tables in
    let known : AreSound models tables =
    record { laws = record { along = c.laws.ensures.meaning; lacks = c.laws.ensures.lacks }; registry = c.laws.ensures.registry; fits = c.laws.ensures.fits; tied = c.requires.tied } in
    let at : field_at models c.args.cell.model c.args.cell.field ≡ Some c.in-Some.info.now =
    sym (ap (λ (s : Standing). field_at s.models c.args.cell.model c.args.cell.field) c.tables.view_is) ∙ sym c.find_field.ensures ∙ ap (option_map (λ i. i.now)) c.in-Some.is in
    let from : c.in-Some.info.now.origin ≡ origin.Computed c.in-Computed.formula = c.in-Computed.is in
    let items = c.as_slice-end-items.result.now in
    let i = c.loop-end.end-index in
    all-settled models tables known c.args.cell c.in-Some.info.now c.in-Computed.formula c.requires.row at from c.loop-end.outcomes
    (λ d among. c.loop-end.invariant.done d (subst (Stands d) (sym c.loop-end.invariant.items ∙ sym (take_all i items c.loop-end-test.false)) among))

pub returns-clause-right : goal.returns-clause-right
returns-clause-right t c =
    let models = c.args.self.now.tables.now.models in
    let tables = c.args.self.now.tables.now.tables in
    let at : field_at models c.args.cell.model c.args.cell.field ≡ Some c.in-Some.info.now =
    sym (ap (λ (s : Standing). field_at s.models c.args.cell.model c.args.cell.field) c.tables.view_is) ∙ sym c.find_field.ensures ∙ ap (option_map (λ i. i.now)) c.in-Some.is in
    insert-right models tables c.laws.ensures.exact c.loop-end.outcomes c.insert.new.self c.args.cell c.in_ok-outcome.outcome c.in_ok-insert.ensures.updates.0
    (c.requires.row, tell_and (field_at models c.args.cell.model c.args.cell.field) c.in-Some.info.now (IsFormulaOutcome models tables c.args.cell c.in_ok-outcome.outcome) at c.in_ok-outcome.ensures) c.loop-end.invariant.right

pub returns-clause-kept : goal.returns-clause-kept
returns-clause-kept t c =
    λ q there. insert-keeps c.args.self.now.tables.now.models c.args.self.now.tables.now.tables c.laws.ensures.exact c.loop-end.outcomes c.insert.new.self
    c.args.cell c.in_ok-outcome.outcome c.in_ok-insert.ensures.updates.0 q (c.loop-end.invariant.kept q there)
