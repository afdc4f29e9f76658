use Rattle.std.proofs.Common.{List, ℕ, sym, subst, ◌∙◌}
use Rattle.std.proofs.lemmas.List.{take_all}
use Rattle.ob_base.specs.declared.id.ModelNo.{ModelNo}
use Rattle.ob_audit.specs.Comparing.{AddsFields}
use Rattle.ob_audit.specs.Report.{AreByName, FieldOf, stored_fields, stored_of_model}
use Rattle.ob_audit.proofs.NamedModels.{sorted-there}
use Rattle.ob_audit.proofs.Telling.{adds-join, adds-none, fields-more}
use Rattle.ob_schema.specs.declared.info.ModelInfo.{ModelInfo}
use Rattle.ob_tables.proofs.CallerLemmas.{sound-tied}
use Rattle.ob_audit.proofs.comparing.add_fields.Goals as goal

pub of-requires : goal.of-requires
of-requires c = sound-tied c.args.tables.now.models c.args.tables.now.tables c.requires.sound

pub loop-model-init : goal.loop-model-init
loop-model-init c = record { same = c.in_ok-values.ensures; told = adds-none c.args.tables.now c.args.stored.now c.args.report.now }

pub add_model-requires-clause-model : goal.add_model-requires-clause-model
add_model-requires-clause-model c =
    sorted-there c.args.schema.now c.as_slice-model-items.result.now (subst (AreByName c.args.schema.now) (sym c.as_slice-model-items.ensures.value) c.in_ok-named.ensures)
    c.loop-model.model-index c.loop-model-item.result c.loop-model-test.true
    c.loop-model-item.is

pub add_model-requires-clause-values : goal.add_model-requires-clause-values
add_model-requires-clause-values c = c.loop-model.invariant.same

pub loop-model-preserved : goal.loop-model-preserved
loop-model-preserved c =
    let tables = c.args.tables.now in
    let stored = c.args.stored.now in
    let models = c.args.schema.now in
    let items = c.as_slice-model-items.result.now in
    let place = c.loop-model.model-index in
    let item = c.loop-model-item.result in
    let i = c.loop-model.invariant in
    record {
      same = c.in_ok-add_model.ensures.same ∙ i.same;
      told = subst (λ (l : List FieldOf). AddsFields tables stored l c.args.report.now c.add_model.new.report) (sym (fields-more models items place item c.loop-model-test.true c.loop-model-item.is))
          (adds-join tables stored _ (stored_of_model models item.0) c.args.report.now c.loop-model.report c.add_model.new.report i.told c.in_ok-add_model.ensures.told);
    }

pub returns : goal.returns
returns c =
    let tables = c.args.tables.now in
    let stored = c.args.stored.now in
    let models = c.args.schema.now in
    let items = c.as_slice-model-items.result.now in
    record {
      named = items;
      by_name = subst (λ (m : List ModelInfo). AreByName m items) (sym c.requires.models) (subst (AreByName models) (sym c.as_slice-model-items.ensures.value) c.in_ok-named.ensures);
      adds = subst (λ (m : List ModelInfo). AddsFields tables stored (stored_fields m items) c.args.report.now c.loop-model.report) (sym c.requires.models)
          (subst (λ (l : List (ModelNo × List ℕ)). AddsFields tables stored (stored_fields models l) c.args.report.now c.loop-model.report) (take_all c.loop-model.model-index items c.loop-model-test.false) c.loop-model.invariant.told);
    }
