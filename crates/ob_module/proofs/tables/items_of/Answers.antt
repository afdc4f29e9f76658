use Rattle.std.proofs.Common.{◌≡◌, map, sym, ap, ◌∙◌}
use Rattle.toml.proofs.Views.{view-Array}
use Rattle.toml.specs.Data.{array}
use Rattle.toml.specs.View.{items_view, view}
use Rattle.ob_module.specs.Meaning.{items_of}
use Rattle.ob_module.proofs.Documents.{listed-view}
use Rattle.ob_module.proofs.tables.items_of.Goals as goal

pub returns-in-Array : goal.returns-in-Array
returns-in-Array c =
    let seen : view c.args.value.now ≡ array (items_view c.in-Array.items.items) = ap view c.in-Array.is ∙ view-Array c.in-Array.items in
    ap (map view) c.as_slice.ensures.value ∙ sym (listed-view c.in-Array.items.items) ∙ ap items_of (sym seen)
