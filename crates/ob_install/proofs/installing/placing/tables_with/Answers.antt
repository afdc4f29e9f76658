use Rattle.std.proofs.Common.{◌≡◌, subst}
use Rattle.std.specs.Prelude.{IfOk}
use Rattle.ob_schema.specs.Tables.{Standing}
use Rattle.ob_tables.specs.After.{after}
use Rattle.ob_install.proofs.installing.placing.tables_with.Goals as goal

pub returns : goal.returns
returns c = subst (λ (e : Standing). IfOk c.after-2.result (λ tables. tables ≡ record { models = e.models; tables = after e.models e.tables c.args.edits.now })) c.empty.ensures c.after-2.ensures
