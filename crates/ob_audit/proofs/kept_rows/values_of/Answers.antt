use Rattle.std.proofs.Common.{◌≡◌, List, sym, ap, ◌∙◌, Err, true, false}
use Rattle.std.specs.List.{flat_map}
use Rattle.ob_base.specs.declared.value.Value.{Value}
use Rattle.ob_audit.proofs.RowReads.{links-decide, told-bad, told-other, told-read}
use Rattle.ob_audit.specs.Reading.{entries, links_for}
use Rattle.ob_schema.specs.Models.{model_at}
use Rattle.ob_audit.proofs.kept_rows.values_of.Goals as goal

pub returns-in-Err-Bad : goal.returns-in-Err-Bad
returns-in-Err-Bad c =
    told-bad c.args.next c.args.row.now (model_at c.args.schema.now c.args.model)
    (λ values hold body. c.row_of.ensures.bad (c.in-Err-Bad.is ∙ ap Err c.in-Err-Bad.field-0-is) values hold (c.as_slice.ensures ∙ body))

pub returns-then-eq : goal.returns-then-eq
returns-then-eq c =
    let values = c.in-Ok.values in
    let fields = c.fields.result.now in
    let found = c.in-Ok.ensures.ok in
    let links = ap (λ (vs : List Value). flat_map links_for (entries fields vs)) (sym c.as_slice-2.ensures) ∙ sym c.in_ok-links.ensures in
    let same = (links-decide c.as_slice-3.result.now c.as_slice-4.result.now c.eq.result c.eq.ensures).0 c.if-eq.true in
    told-read c.args.next c.args.row.now (model_at c.args.schema.now c.args.model) fields values c.fields.ensures.same c.if-row-next.false found.0 (sym c.as_slice.ensures ∙ found.1)
    (links ∙ sym c.as_slice-3.ensures ∙ same ∙ c.as_slice-4.ensures)

pub returns-else-eq : goal.returns-else-eq
returns-else-eq c =
    let values = c.in-Ok.values in
    let fields = c.fields.result.now in
    let found = c.in-Ok.ensures.ok in
    let links = ap (λ (vs : List Value). flat_map links_for (entries fields vs)) (sym c.as_slice-2.ensures) ∙ sym c.in_ok-links.ensures in
    told-other c.args.next c.args.row.now (model_at c.args.schema.now c.args.model) fields values c.fields.ensures.same found.0 (sym c.as_slice.ensures ∙ found.1)
    (λ same. let wrong : true ≡ false = sym ((links-decide c.as_slice-3.result.now c.as_slice-4.result.now c.eq.result c.eq.ensures).1 (c.as_slice-3.ensures ∙ sym links ∙ same ∙ sym c.as_slice-4.ensures)) ∙ c.if-eq.false in cc)
