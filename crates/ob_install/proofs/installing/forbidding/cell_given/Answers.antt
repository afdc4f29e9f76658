use Rattle.std.proofs.Common.{◌≡◌, ◌<◌, length, subst, sym, true, arith}
use Rattle.std.specs.Prelude.{IsSomeAnd}
use Rattle.ob_install.proofs.ForbiddenRows.{link-given}
use Rattle.ob_install.proofs.GivenCells.{behind-gives}
use Rattle.ob_install.proofs.installing.forbidding.cell_given.Goals as goal
use Rattle.ob_schema.specs.Models.{field_at, is_given_from}
use Rattle.ob_schema.specs.Tables.{Standing}

pub plain-requires : goal.plain-requires
plain-requires c =
    subst (λ (t : Standing). IsSomeAnd (field_at t.models c.args.model c.in-Delegated.at.link) (λ info. is_given_from info.origin ≡ true)) (sym c.in_ok-tables_of-in-Delegated.ensures)
    (link-given c.args.maker.now.schema.now c.parts_fit_together.ensures c.args.model c.args.field c.info.result.now c.in-Delegated.at c.info.ensures c.in-Delegated.is)

pub returns-in_ok-target-in-Delegated : goal.returns-in_ok-target-in-Delegated
returns-in_ok-target-in-Delegated c = λ cell.
    let placed = c.args.placed.now in
    let within : c.args.number < length placed.ids.items = let each = c.requires.whole.each in let low = c.requires.within in omega (arith, each, low) in
    behind-gives c.args.maker.now.schema.now placed c.args.number c.args.model c.args.field c.index-id.result.now c.info.result.now c.in-Delegated.at within c.index-id.ensures c.info.ensures c.in-Delegated.is
    c.in_ok-tables_of-in-Delegated.field-0 c.in_ok-tables_of-in-Delegated.ensures c.in_ok-target-in-Delegated.target c.in_ok-target-in-Delegated.ensures c.cell_behind.result cell (c.cell_behind.ensures cell)
