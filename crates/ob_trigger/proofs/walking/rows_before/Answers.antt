-- One target more.
use Rattle.std.proofs.Common.{◌≡◌, ◌↔◌, List, get_or, sym, subst, ◌∙◌}
use Rattle.std.specs.Prelude.{Contains}
use Rattle.std.proofs.lemmas.List.{take_all}
use Rattle.std.proofs.lemmas.Result.{err_from_is_err_and}
use Rattle.ob_base.specs.declared.id.RecId.{RecId}
use Rattle.ob_schema.specs.Links.{leading_to}
use Rattle.ob_schema.specs.Models.{FieldHas}
use Rattle.ob_schema.specs.Plain.{plain_at}
use Rattle.ob_schema.specs.ReadCells.{cell_at, targets_at}
use Rattle.ob_schema.specs.declared.info.ModelInfo.{ModelInfo}
use Rattle.ob_trigger.specs.Readers.{IsPlainRelation}
use Rattle.ob_trigger.proofs.Asking.{alone_none, alone_then, fault_behind}
use Rattle.ob_trigger.proofs.RowsBefore.{before_more, before_none}
use Rattle.ob_trigger.proofs.walking.rows_before.Goals as goal

pub loop-target-init : goal.loop-target-init
loop-target-init g c = record {
  told = λ sides tells row. before_none (plain_at sides.before (g.W.Links.registry c.args.worlds.now)) c.args.step c.new-before.result.keys c.new-before.ensures.empty row;
  items = c.as_slice-target-items.ensures.value ∙ c.in_ok-targets.ensures;
  stays = alone_none _;
}

pub sources_of-requires : goal.sources_of-requires
sources_of-requires g c = subst (λ (m : List ModelInfo). FieldHas m IsPlainRelation c.args.step.model c.args.step.field) (sym c.loop-target.invariant.stays.same) c.requires

pub loop-target-preserved : goal.loop-target-preserved
loop-target-preserved g c =
    let registry = g.W.Links.registry c.args.worlds.now in
    let items = c.as_slice-target-items.result.now in
    let none : RecId = record { 0 = 0 } in
    let target = get_or items c.loop-target.target-index none in
    record {
      told = λ sides tells. before_more registry sides.before c.args.step c.requires items c.loop-target.target-index none c.loop-target.before.keys c.add_all.new.set.keys c.in_ok-ids.ids c.as_slice.result.now
          c.loop-target-test.true c.as_slice.ensures.same
          (subst (λ (m : List ModelInfo). c.in_ok-ids.ids ≡ leading_to m sides.before c.args.step.model c.args.step.field target) c.loop-target.invariant.stays.same
          (c.in_ok-ids.ensures.told sides (c.loop-target.invariant.stays.kept sides tells)))
          c.in_ok-add_all.ensures (c.loop-target.invariant.told sides tells);
      items = c.loop-target.invariant.items;
      stays = alone_then _ _ _ c.loop-target.invariant.stays c.sources_of.ensures.stays;
    }

pub returns-clause-told : goal.returns-clause-told
returns-clause-told g c = λ sides tells row.
    let held = plain_at sides.before (g.W.Links.registry c.args.worlds.now) in
    let all = take_all c.loop-target.target-index c.as_slice-target-items.result.now c.loop-target-test.false ∙ c.loop-target.invariant.items in
    subst (λ (l : List RecId). Contains c.loop-target.before.keys row ↔ ((target : RecId) × Contains l target × Contains (targets_at held (cell_at c.args.step row)) target)) all (c.loop-target.invariant.told sides tells row)

pub returns-in_err-ids-clause-fault : goal.returns-in_err-ids-clause-fault
returns-in_err-ids-clause-fault g c =
    let p = err_from_is_err_and c.from_residual-in_err-ids.result c.from_residual-in_err-ids.ensures.1 in
    rw (p.1, p.2) (fault_behind g.W.Links.has_failed _ _ c.sources_of.new.worlds c.in_err-ids.field-0.0 c.loop-target.invariant.stays.asked c.in_err-ids.ensures.fault)

pub returns-in_err-ids-clause-stays : goal.returns-in_err-ids-clause-stays
returns-in_err-ids-clause-stays g c = alone_then _ _ _ c.loop-target.invariant.stays c.sources_of.ensures.stays

pub returns-in_err-add_all-clause-stays : goal.returns-in_err-add_all-clause-stays
returns-in_err-add_all-clause-stays g c = alone_then _ _ _ c.loop-target.invariant.stays c.sources_of.ensures.stays

pub returns-in_err-targets-clause-stays : goal.returns-in_err-targets-clause-stays
returns-in_err-targets-clause-stays g c = alone_none _
