use Rattle.std.proofs.Common.{◌≡◌, sym, subst, ◌∙◌, is_some}
use Rattle.ob_schema.specs.Tables.{key_of, row_at}
use Rattle.ob_tables.proofs.Shown.{has-shown_rows}
use Rattle.ob_tables.proofs.tables.Tables.has_row.Goals as goal

pub returns : goal.returns
returns c = subst (λ s. c.contains_key.result ≡ is_some (row_at s.tables c.args.model c.args.id)) c.self.view_is
    (c.contains_key.ensures ∙ sym (has-shown_rows c.self.inside.rows (key_of c.args.model c.args.id)))
