use Rattle.std.proofs.Common.{◌∙◌, sym}
use Rattle.ob_base.specs.declared.refusal.BrokenKind.TheVariants as kind
use Rattle.ob_tables.specs.Finding.{BreaksIn, Is, is_of_plain}
use Rattle.ob_tables.proofs.Finds.{finds-as}
use Rattle.ob_tables.proofs.PlainCells.{Found, kept-by-none, listed-back, listed-to}
use Rattle.ob_tables.proofs.cells.find_in_cell.Goals as goal

pub find_in_kept-requires-clause-kept : goal.find_in_kept-requires-clause-kept
find_in_kept-requires-clause-kept c =
    kept-by-none c.args.tables.now.models c.args.tables.now.tables c.args.cell c.args.field.now c.fit_together.ensures.registry c.requires.field c.requires.row c.in-Plain.is (sym c.or.ensures ∙ c.in-None.is)

pub returns-in-Some : goal.returns-in-Some
returns-in-Some c =
    let models = c.args.tables.now.models in
    let t = c.args.tables.now.tables in
    let f = c.is_too_full-is_full in
    finds-as (Found models t c.args.cell c.args.field.now c.requires.field c.requires.row f.result kind.Limit) (BreaksIn models t is_of_plain (Is c.args.cell)) c.args.findings.now c.add_if-in-Some.new.findings
    (listed-to models t c.args.cell c.args.field.now c.fit_together.ensures.registry c.requires.field c.requires.row c.in-Plain.is c.in-Some.field-0 (sym c.or.ensures ∙ c.in-Some.is) c.args.holders f.result c.requires.holders f.ensures)
    (listed-back models t c.args.cell c.args.field.now c.fit_together.ensures.registry c.requires.field c.requires.row c.in-Plain.is c.in-Some.field-0 (sym c.or.ensures ∙ c.in-Some.is) c.args.holders f.result c.requires.holders f.ensures)
    c.add_if-in-Some.ensures
