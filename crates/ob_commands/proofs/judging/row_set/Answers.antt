use Rattle.std.specs.Prelude.{Contains}
use Rattle.std.proofs.lemmas.List.Elements.{Contains-get_or}
use Rattle.std.proofs.lemmas.Map.Views.{All-insert_key}
use Rattle.ob_base.specs.declared.id.RowKey.{RowKey}
use Rattle.std.proofs.Common.{get_or}
use Rattle.ob_commands.proofs.judging.row_set.Goals as goal

abbrev none : RowKey
none = record { model = record { 0 = 0 }; id = record { 0 = 0 } }

pub loop-row-preserved : goal.loop-row-preserved
loop-row-preserved c =
    let rows = c.args.rows.now in
    let i = c.loop-row.row-index in
    rw c.in_ok-insert.ensures.keys (All-insert_key _ (get_or rows i none) (Contains rows) c.loop-row.set.keys c.loop-row.invariant (Contains-get_or rows i none c.loop-row-test.true))
