use Rattle.std.proofs.Common.{◌≡◌, ap, sym, subst, ◌∙◌, option_map, option_and_then}
use Rattle.std.specs.Option.{option_copied}
use Rattle.std.specs.BTreeMap as tree
use Rattle.std.specs.Ordering.{nat_cmp}
use Rattle.ob_base.specs.Ids.{row_key_cmp}
use Rattle.ob_schema.specs.Tables.{key_of, kept_at}
use Rattle.ob_tables.proofs.Shown.{kept-shown_rows}
use Rattle.ob_tables.proofs.tables.Tables.kept.Goals as goal

pub returns-in_err-get : goal.returns-in_err-get
returns-in_err-get c =
    let rows = c.self.inside.rows in
    let field = c.args.cell.field.0 in
    let key = key_of c.args.cell.model c.args.cell.id in
    let none = ap (λ k. tree.get row_key_cmp rows k) (sym c.key_of.ensures) ∙ sym c.get.ensures.value ∙ ap option_copied c.in_err-get.was in
    subst (λ s. option_map (λ value. value.now) c.from_residual.result ≡ kept_at s.tables c.args.cell) c.self.view_is
    (ap (option_map (λ value. value.now)) c.from_residual.ensures
    ∙ sym (kept-shown_rows rows key field ∙ ap (option_and_then (λ row. tree.get nat_cmp row field)) none))

pub returns : goal.returns
returns c =
    let rows = c.self.inside.rows in
    let field = c.args.cell.field.0 in
    let key = key_of c.args.cell.model c.args.cell.id in
    let found = ap (λ k. tree.get row_key_cmp rows k) (sym c.key_of.ensures) ∙ sym c.get.ensures.value ∙ ap option_copied c.in_ok-get.was in
    subst (λ s. option_map (λ value. value.now) c.get-2.result ≡ kept_at s.tables c.args.cell) c.self.view_is
    (c.get-2.ensures.value ∙ sym (kept-shown_rows rows key field ∙ ap (option_and_then (λ row. tree.get nat_cmp row field)) found))
