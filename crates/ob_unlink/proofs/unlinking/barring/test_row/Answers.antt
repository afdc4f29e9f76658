-- A row that no call deletes, or a lock.
use Rattle.std.proofs.Common.{List, subst}
use Rattle.ob_unlink.proofs.Barred.{bars-refuses}
use Rattle.ob_unlink.specs.DeletionSteps.{BarsRow}
use Rattle.ob_unlink.proofs.unlinking.barring.test_row.Goals as goal
use Rattle.ob_schema.specs.declared.info.ModelInfo.{ModelInfo}

pub returns-then-lasts-clause-refused : goal.returns-then-lasts-clause-refused
returns-then-lasts-clause-refused g c = λ tables rests there.
    bars-refuses c.args.engine.now.held.models tables c.args.row _ c.lasting_row.result
    (subst (λ (ms : List ModelInfo). BarsRow ms tables c.args.row c.lasting_row.result) c.schema-schema.ensures (c.lasting_row.ensures.bars tables))
