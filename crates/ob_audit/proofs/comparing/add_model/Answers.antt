use Rattle.std.proofs.Common.{◌+◌, sym, subst, take, ◌∙◌}
use Rattle.ob_audit.specs.Comparing.{AddsFields}
use Rattle.ob_audit.specs.declared.report.Report.{Report}
use Rattle.ob_audit.proofs.Telling.{field-here, field-passed, field-told, stored_from}
use Rattle.ob_audit.proofs.comparing.add_model.Goals as goal
use Rattle.ob_audit.proofs.comparing.add_model.Goals.{then-is_stored+in_ok-add_field, else-is_stored}

pub loop-place-preserved : goal.loop-place-preserved
loop-place-preserved c =
    let tables = c.args.tables.now in
    let stored = c.args.stored.now in
    let models = c.args.schema.now in
    let model = c.args.model in
    let fields = c.fields-fields.result.now in
    let place = c.loop-place.place in
    let field = c.index-fields-place.result in
    let i = c.loop-place.invariant in
    let start = c.args.report.now in
    elim c.if-is_stored.branch [
      | then-is_stored+in_ok-add_field w ↦ record {
        same = w.values-is ∙ w.in_ok-add_field.ensures.same ∙ i.same;
        told = subst (λ (r : Report). AddsFields tables stored (stored_from model 1 (take (place + 1) fields)) start r) (sym w.report-is)
            (field-told tables stored model fields place field c.loop-place-test.true c.index-fields-place.is start c.loop-place.report i.told c.loop-place.values models w.add_field.new.report (i.same ∙ c.requires.values)
            (field-here models model fields place field c.requires.model c.fields-fields.ensures.same c.loop-place-test.true c.index-fields-place.is) (sym c.is_stored.ensures ∙ w.if-is_stored.true) w.in_ok-add_field.ensures.told);
      }
      | else-is_stored w ↦ record {
        same = w.values-is ∙ i.same;
        told = subst (λ (r : Report). AddsFields tables stored (stored_from model 1 (take (place + 1) fields)) start r) (sym w.report-is)
            (field-passed tables stored model fields place field c.loop-place-test.true c.index-fields-place.is start c.loop-place.report i.told (sym c.is_stored.ensures ∙ w.if-is_stored.false));
      }
    ]
