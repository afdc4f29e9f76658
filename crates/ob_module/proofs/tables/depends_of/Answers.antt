use Rattle.std.proofs.Common.{codes, map, ap, ◌∙◌}
use Rattle.toml.specs.Data.{get, table}
use Rattle.toml.specs.View.{table_view, view}
use Rattle.ob_module.specs.Meaning.{text_of}
use Rattle.ob_module.proofs.Documents.{map-over, texts-of-items}
use Rattle.ob_module.proofs.tables.depends_of.Goals as goal

pub returns : goal.returns
returns c =
    map-over text_of view c.listed_at.result.now ∙ ap (map text_of) c.listed_at.ensures ∙ texts-of-items (get (codes "depends") (table (table_view c.args.document.now)))
