use Rattle.std.proofs.Common.{sym, ◌∙◌}
use Rattle.toml.specs.View.{table_view}
use Rattle.ob_module.proofs.Entries.{has-lookup}
use Rattle.ob_module.proofs.modules.Modules.has.Goals as goal

pub returns : goal.returns
returns c = c.contains_key.ensures ∙ sym (has-lookup table_view c.args.self.now.documents.entries c.args.name.now)
