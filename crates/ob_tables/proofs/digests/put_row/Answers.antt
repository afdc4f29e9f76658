use Rattle.std.proofs.Common.{Some, sym, subst}
use Rattle.ob_tables.specs.Digests.{AreDigested}
use Rattle.ob_tables.specs.Holdings.{RowMap}
use Rattle.ob_tables.proofs.DigestedRows.{digested-after}
use Rattle.ob_tables.proofs.digests.put_row.Goals as goal

pub returns-in_err-insert-clause-digested : goal.returns-in_err-insert-clause-digested
returns-in_err-insert-clause-digested c = subst (λ (r : RowMap). AreDigested c.args.schema.now r c.args.digests.now) (sym c.in_err-insert.ensures.err) c.requires

pub returns-clause-digested : goal.returns-clause-digested
returns-clause-digested c =
    digested-after c.args.schema.now c.args.rows.now c.insert.new.self c.args.key (Some c.args.row) c.in_ok-turned.turned c.in_ok-turned.ensures c.in_ok-insert.ensures.updates.0
