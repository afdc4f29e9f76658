use Rattle.toml.specs.View.{table_view}
use Rattle.ob_module.proofs.Entries.{modules-apart}
use Rattle.ob_module.proofs.modules.Modules.len.Goals as goal

pub returns-clause-apart : goal.returns-clause-apart
returns-clause-apart c = modules-apart table_view c.args.self.now.documents.entries c.len.ensures.unique
