use Rattle.std.proofs.Common.{◌≡◌, true, Ok, ap, sym, subst, ◌∙◌}
use Rattle.std.specs.Prelude.{IsSome, IsSomeAnd}
use Rattle.ob_schema.specs.Models.{field_at, is_computed_from}
use Rattle.ob_schema.specs.Tables.{Standing, row_at}
use Rattle.ob_schema.specs.Val.{val}
use Rattle.ob_tables.specs.Scratch.{HasScratch}
use Rattle.ob_tables.specs.declared.outcome.Outcome.TheVariants as outcome
use Rattle.ob_tables.proofs.Known.{value-outcome}
use Rattle.ob_tables.proofs.Settling.{insert-right}
use Rattle.ob_tables.proofs.values.Values.know.Goals as goal

pub invariant_of-self-2 : goal.invariant_of-self-2
unfolding HasScratch
invariant_of-self-2 c =
    let s = c.self.inside.given.tables.now in
    let cell = c.args.cell in
    let v = c.in_ok-value.value in
    let there : IsSome (row_at s.tables cell.model cell.id) = subst (λ (t : Standing). IsSome (row_at t.tables cell.model cell.id)) (sym c.self.view_is) c.requires.row in
    let computed : IsSomeAnd (field_at s.models cell.model cell.field) (λ info. is_computed_from info.origin ≡ true) =
    subst (λ (t : Standing). IsSomeAnd (field_at t.models cell.model cell.field) (λ info. is_computed_from info.origin ≡ true)) (sym c.self.view_is) c.requires.field in
    let has : val s.models s.tables cell ≡ Ok v =
    subst (λ (t : Standing). val t.models t.tables cell ≡ Ok c.args.value.now) (sym c.self.view_is) c.requires.value ∙ ap Ok (sym c.in_ok-value.ensures) in
    let here = value-outcome (record { along = c.laws.ensures.meaning; lacks = c.laws.ensures.lacks }) c.values_of_kinds.ensures c.values_from_cells.ensures
    s.models s.tables c.laws.ensures.registry c.laws.ensures.fits c.self.invariant.0 cell v there computed has in
    (c.self.invariant.0, insert-right s.models s.tables c.laws.ensures.exact c.self.inside.outcomes c.insert.new.self cell (outcome.Value v) c.in_ok-insert.ensures.updates.0 here c.self.invariant.1)
