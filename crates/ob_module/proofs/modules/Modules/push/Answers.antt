use Rattle.std.proofs.Common.{◌≡◌, None, ◌∙◌}
use Rattle.std.specs.String.{string_eq}
use Rattle.toml.specs.View.{table_view}
use Rattle.indexmap.specs.IndexMap.{get}
use Rattle.indexmap.proofs.CallerLemmas.{insert_entry-new}
use Rattle.ob_module.proofs.Entries.{modules-push, not_there}
use Rattle.ob_module.proofs.modules.Modules.push.Goals as goal

pub returns : goal.returns
returns c =
    let map = c.args.self.now.documents in
    let key = c.into_string.result in
    let new : get string_eq map key ≡ None = not_there table_view map.entries key c.args.name c.into_string.ensures c.requires in
    modules-push table_view map.entries c.insert.new.self.entries key c.args.document c.args.name
    (c.in_ok-insert.ensures.entries ∙ insert_entry-new string_eq map key c.args.document new) c.into_string.ensures
