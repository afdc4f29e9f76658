use Rattle.std.proofs.Common.{◌≡◌, ◌∙◌, ◌<◌, suc, Some, ap, sym, subst, add-one, arith, length, refl}
use Rattle.std.specs.Prelude.{slice_get}
use Rattle.std.proofs.lemmas.Option.{slice_get_read, slice_get_within}
use Rattle.ob_schema.specs.Models.{IsModel, field_at, model_at}
use Rattle.ob_tables.specs.Finding.{BreaksIn, Finds, IsIn, IsOf, is_of_plain}
use Rattle.ob_tables.proofs.Finds.{Below, below-more, below-none, finds-as}
use Rattle.ob_tables.proofs.PlainCells.{field-at-place, place-of-broken}
use Rattle.ob_tables.proofs.cells.find_in_cells.Goals as goal

pub find_in_column-requires : goal.find_in_column-requires
find_in_column-requires c =
    let m = c.model_info-info.result.now in
    let at = subst (λ s. model_at s.models c.args.model ≡ Some m) c.tables.view_is c.model_info-info.ensures.at in
    let is : slice_get m.fields c.loop-place.place ≡ Some c.field-item.result =
    ap (λ l. slice_get l c.loop-place.place) (sym c.as_slice-field-items.ensures)
    ∙ slice_get_read c.as_slice-field-items.result.now _ c.loop-place.place c.field-item.result refl c.loop-place-test.true c.field-item.is in
    record {
      field = subst (λ n. field_at c.args.tables.now.models c.args.model (record { 0 = n }) ≡ Some c.field-item.result) (sym (add-one c.loop-place.place))
          (field-at-place c.args.tables.now.models c.args.model m c.loop-place.place c.field-item.result at is);
      ids = c.requires.ids;
    }

pub loop-place-init : goal.loop-place-init
loop-place-init c = below-none (λ k. BreaksIn c.args.tables.now.models c.args.tables.now.tables is_of_plain (IsIn c.args.model (record { 0 = suc k }))) c.args.findings.now

pub loop-place-preserved : goal.loop-place-preserved
loop-place-preserved c =
    let models = c.args.tables.now.models in
    let t = c.args.tables.now.tables in
    below-more (λ k. BreaksIn models t is_of_plain (IsIn c.args.model (record { 0 = suc k }))) c.loop-place.place c.args.findings.now c.loop-place.findings c.find_in_column.new.findings c.loop-place.invariant
    (subst (λ n. Finds (BreaksIn models t is_of_plain (IsIn c.args.model (record { 0 = n }))) c.loop-place.findings c.find_in_column.new.findings) (add-one c.loop-place.place) c.in_ok-find_in_column.ensures)

pub returns : goal.returns
returns c =
    let models = c.args.tables.now.models in
    let t = c.args.tables.now.tables in
    let m = c.model_info-info.result.now in
    let at = subst (λ s. model_at s.models c.args.model ≡ Some m) c.tables.view_is c.model_info-info.ensures.at in
    let law = subst (λ s. IsModel s.models c.args.model m) c.tables.view_is c.model_info-info.ensures.fit in
    finds-as (Below (λ k. BreaksIn models t is_of_plain (IsIn c.args.model (record { 0 = suc k }))) c.loop-place.place) (BreaksIn models t is_of_plain (IsOf c.args.model)) c.args.findings.now c.loop-place.findings
    (λ b h. (h.here.0, h.here.1.model_is, h.here.2))
    (λ b h.
    let p = place-of-broken models t m b.kind b.cell (ap (model_at models) h.1 ∙ at) law.conditions h.0 h.2 in
    let low : p.0 < length c.as_slice-field-items.result.now = slice_get_within c.as_slice-field-items.result.now p.0 p.1 (ap (λ l. slice_get l p.0) c.as_slice-field-items.ensures ∙ p.3) in
    record { place = p.0; low = omega arith; here = (h.0, record { model_is = h.1; field_is = ap (λ n. record { 0 = n }) p.2 }, h.2) })
    c.loop-place.invariant
