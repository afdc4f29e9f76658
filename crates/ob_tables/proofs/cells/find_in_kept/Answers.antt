use Rattle.std.proofs.Common.{◌≡◌, ◌∙◌, ap, sym, is_some, option_map, true, false}
use Rattle.ob_tables.proofs.PlainCells.{has-kept-value, kept-value}
use Rattle.ob_tables.proofs.cells.find_in_kept.Goals as goal

contrary : {P : Type 0} → false ≡ true → P
contrary e = cc

pub find_in_value-requires-clause-value : goal.find_in_value-requires-clause-value
find_in_value-requires-clause-value c =
    kept-value c.args.tables.now.models c.args.tables.now.tables c.args.cell c.args.field.now c.fit_together.ensures.registry c.requires.field c.requires.row c.requires.kept c.in-Some.value.now
    (sym c.kept.ensures ∙ ap (option_map (λ value. value.now)) c.in-Some.is)

pub unreachable-requires : goal.unreachable-requires
unreachable-requires c =
    contrary (ap is_some (ap (option_map (λ value. value.now)) (sym c.in-None.is) ∙ c.kept.ensures)
    ∙ has-kept-value c.args.tables.now.models c.args.tables.now.tables c.args.cell c.args.field.now c.fit_together.ensures.registry c.requires.field c.requires.row c.fit_together.ensures.fits c.requires.kept)
