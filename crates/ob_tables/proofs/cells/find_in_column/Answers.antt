use Rattle.std.proofs.Common.{◌∙◌, ap, sym, subst, get_or, IsSome}
use Rattle.std.specs.Prelude.{slice_get}
use Rattle.std.proofs.lemmas.Option.{slice_get-get_or}
use Rattle.ob_base.specs.declared.id.RecId.{RecId}
use Rattle.ob_tables.specs.Finding.{BreaksIn, Is, IsIn, is_of_plain}
use Rattle.std.specs.Prelude.{unwrap_or}
use Rattle.ob_base.specs.declared.refusal.Broken.{Broken}
use Rattle.ob_schema.specs.Tables.{row_at}
use Rattle.ob_tables.proofs.PlainCells.{row-of-broken}
use Rattle.ob_tables.proofs.Finds.{AtItem, below-none, items-all, items-more}
use Rattle.ob_tables.proofs.RowIds.{ids-there, there-ids}
use Rattle.ob_tables.proofs.cells.find_in_column.Goals as goal

pub find_in_cell-requires : goal.find_in_cell-requires
find_in_cell-requires c =
    let t = c.args.tables.now.tables in
    let id : RecId = get_or c.args.ids.now c.loop-id.id-index (record { 0 = 0 }) in
    let at = slice_get-get_or c.args.ids.now c.loop-id.id-index (record { 0 = 0 }) c.loop-id-test.true in
    let there = ids-there t c.args.model c.loop-id.id-index id (ap (λ l. slice_get l c.loop-id.id-index) (sym c.requires.ids) ∙ at) in
    record {
      field = c.requires.field;
      row = there;
      holders = λ mirror ids is.
          c.unwrap_or-holders.ensures ∙ ap (λ o. unwrap_or o 0) (c.copied.ensures ∙ c.get.ensures.value) ∙ c.in_ok-counts.ensures mirror id there ids is;
    }

pub loop-id-init : goal.loop-id-init
loop-id-init c = below-none (AtItem c.args.ids.now (λ id. BreaksIn c.args.tables.now.models c.args.tables.now.tables is_of_plain (Is (record { model = c.args.model; id = id; field = c.args.number })))) c.args.findings.now

pub loop-id-preserved : goal.loop-id-preserved
loop-id-preserved c =
    let at = slice_get-get_or c.args.ids.now c.loop-id.id-index (record { 0 = 0 }) c.loop-id-test.true in
    items-more c.args.ids.now (λ id. BreaksIn c.args.tables.now.models c.args.tables.now.tables is_of_plain (Is (record { model = c.args.model; id = id; field = c.args.number })))
    c.loop-id.id-index (get_or c.args.ids.now c.loop-id.id-index (record { 0 = 0 })) c.args.findings.now c.loop-id.findings c.find_in_cell.new.findings at c.loop-id.invariant c.find_in_cell.ensures

pub returns : goal.returns
returns c =
    let models = c.args.tables.now.models in
    let t = c.args.tables.now.tables in
    let P : RecId → Broken → Type 0 = λ id. BreaksIn models t is_of_plain (Is (record { model = c.args.model; id = id; field = c.args.number })) in
    items-all c.args.ids.now P (BreaksIn models t is_of_plain (IsIn c.args.model c.args.number)) c.loop-id.id-index c.args.findings.now c.loop-id.findings c.loop-id-test.false
    (λ y k id at h. (h.0, record { model_is = ap (λ cell. cell.model) h.1; field_is = ap (λ cell. cell.field) h.1 }, h.2))
    (λ y h.
    let there = there-ids t c.args.model y.cell.id (subst (λ m. IsSome (row_at t m y.cell.id)) h.1.model_is (row-of-broken models t y.kind y.cell h.0 h.2)) in
    (there.0, y.cell.id, ap (λ l. slice_get l there.0) c.requires.ids ∙ there.1, (h.0, λ i. record { model = h.1.model_is i; id = y.cell.id; field = h.1.field_is i }, h.2)))
    c.loop-id.invariant
