use Rattle.std.proofs.Common.{List, subst}
use Rattle.std.specs.Prelude.{Any}
use Rattle.ob_io.specs.Cause.{Rose}
use Rattle.ob_orm.specs.NewRowSteps.{MakesRow}
use Rattle.ob_orm.proofs.PastLimits.{IsPast, past-broken}
use Rattle.ob_orm.proofs.making.limits.settle_rows.Goals as goal
use Rattle.ob_schema.specs.declared.info.ModelInfo.{ModelInfo}
use Rattle.ob_tables.specs.declared.edit.Edit.{Edit}

pub returns-in-Some-clause-refused : goal.returns-in-Some-clause-refused
returns-in-Some-clause-refused g c = λ tables rests.
    let faults = g.K.Keeper.faults c.args.engine.now.keeper.now in
    let row = c.in-Some.row in
    let among = subst (λ (es : List Edit). Any (MakesRow row) es) c.as_slice-edits.ensures.value c.in-Some.ensures.past in
    let told = subst (λ (ms : List ModelInfo). IsPast ms row c.limit_refusal.result) c.schema.ensures c.limit_refusal.ensures in
    (rests, past-broken c.args.engine.now.held.models c.args.making.now.edits.items c.requires.ready.fit row among c.in-Some.ensures.over c.limit_refusal.result told (Rose faults faults) tables)
