use Rattle.std.proofs.Common.{◌≤◌, List, length, arith, refl, subst}
use Rattle.ob_schema.specs.declared.info.ModelInfo.{ModelInfo}
use Rattle.ob_orm.proofs.NextIds.{holds-all, ready-all}
use Rattle.ob_orm.proofs.making.next_ids.begun.Goals as goal

pub returns-clause-ready : goal.returns-clause-ready
returns-clause-ready g c =
    let few = c.parts_fit_together.ensures.few in
    let all : length c.args.engine.now.held.models ≤ c.loop-place.place = subst (λ (ms : List ModelInfo). length ms ≤ c.loop-place.place) c.schema.ensures (omega (arith, few, c.loop-place-test.false)) in
    ready-all c.args.engine.now.held.models _ c.loop-place.place all c.new.ensures.items c.loop-place.invariant.held

pub returns-clause-told : goal.returns-clause-told
returns-clause-told g c = λ tables rests.
    let few = c.parts_fit_together.ensures.few in
    let all : length c.args.engine.now.held.models ≤ c.loop-place.place = subst (λ (ms : List ModelInfo). length ms ≤ c.loop-place.place) c.schema.ensures (omega (arith, few, c.loop-place-test.false)) in
    holds-all c.args.engine.now.held.models (record { next_ids = c.loop-place.next_ids; edits = c.new.result }) c.loop-place.place all c.new.ensures.items tables (c.loop-place.invariant.told tables rests)
