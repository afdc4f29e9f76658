use Rattle.std.proofs.Common.{◌≡◌, ℕ, Option, Some, None, option_map, refl, sym, ap, subst, ◌∙◌}
use Rattle.std.specs.BTreeMap.{BTreeMap}
use Rattle.std.specs.Borrow.{Bor}
use Rattle.std.specs.Option.{option_copied}
use Rattle.ob_base.specs.declared.value.Value.{Value}
use Rattle.ob_schema.specs.Tables.{key_of, row_at}
use Rattle.ob_tables.specs.Rooms.{shown_row}
use Rattle.ob_tables.proofs.Shown.{get-shown_rows}
use Rattle.ob_tables.proofs.tables.Tables.row.Goals as goal

mapped : (found : Option (Bor (BTreeMap ℕ Value))) → option_map (λ row. shown_row row.now) found ≡ option_map shown_row (option_copied found)
mapped None = refl
mapped (Some row) = refl

pub returns : goal.returns
returns c =
    subst (λ s. option_map (λ row. shown_row row.now) c.get.result ≡ row_at s.tables c.args.model c.args.id) c.self.view_is
    (mapped c.get.result ∙ ap (option_map shown_row) c.get.ensures.value ∙ sym (get-shown_rows c.self.inside.rows (key_of c.args.model c.args.id)))
