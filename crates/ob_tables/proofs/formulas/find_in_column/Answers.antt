use Rattle.std.proofs.Common.{◌∙◌, ap, sym, subst, get_or, IsSome}
use Rattle.std.specs.Prelude.{slice_get}
use Rattle.std.proofs.lemmas.Option.{slice_get-get_or}
use Rattle.ob_base.specs.declared.id.RecId.{RecId}
use Rattle.ob_base.specs.declared.refusal.Broken.{Broken}
use Rattle.ob_schema.specs.Tables.{row_at}
use Rattle.ob_tables.specs.Finding.{BreaksIn, Is, IsIn, is_of_formulas}
use Rattle.ob_tables.proofs.Finds.{AtItem, below-none, items-all, items-more}
use Rattle.ob_tables.proofs.FormulaBreaks.{row-of-formula}
use Rattle.ob_tables.proofs.RowIds.{ids-there, there-ids}
use Rattle.ob_tables.proofs.formulas.find_in_column.Goals as goal

pub find_in_cell-requires-clause-row : goal.find_in_cell-requires-clause-row
find_in_cell-requires-clause-row c =
    let t = c.args.given.now.tables.now.tables in
    let none : RecId = record { 0 = 0 } in
    let id = get_or c.args.ids.now c.loop-id.id-index none in
    let at = slice_get-get_or c.args.ids.now c.loop-id.id-index none c.loop-id-test.true in
    ids-there t c.args.model c.loop-id.id-index id (ap (λ l. slice_get l c.loop-id.id-index) (sym c.requires.ids) ∙ at)

pub loop-id-init : goal.loop-id-init
loop-id-init c = record {
  right = c.requires.right;
  found = below-none (AtItem c.args.ids.now (λ id. BreaksIn c.args.given.now.tables.now.models c.args.given.now.tables.now.tables is_of_formulas (Is (record { model = c.args.model; id = id; field = c.args.number })))) c.args.findings.now;
}

pub loop-id-preserved : goal.loop-id-preserved
loop-id-preserved c =
    let none : RecId = record { 0 = 0 } in
    let at = slice_get-get_or c.args.ids.now c.loop-id.id-index none c.loop-id-test.true in
    record {
      right = c.in_ok-find_in_cell.ensures.right;
      found = items-more c.args.ids.now (λ id. BreaksIn c.args.given.now.tables.now.models c.args.given.now.tables.now.tables is_of_formulas (Is (record { model = c.args.model; id = id; field = c.args.number }))) c.loop-id.id-index
          (get_or c.args.ids.now c.loop-id.id-index none) c.args.findings.now c.loop-id.findings c.find_in_cell.new.findings at c.loop-id.invariant.found c.in_ok-find_in_cell.ensures.found;
    }

pub returns-clause-found : goal.returns-clause-found
returns-clause-found c =
    let models = c.args.given.now.tables.now.models in
    let t = c.args.given.now.tables.now.tables in
    let P : RecId → Broken → Type 0 = λ id. BreaksIn models t is_of_formulas (Is (record { model = c.args.model; id = id; field = c.args.number })) in
    items-all c.args.ids.now P (BreaksIn models t is_of_formulas (IsIn c.args.model c.args.number)) c.loop-id.id-index c.args.findings.now c.loop-id.findings c.loop-id-test.false
    (λ y k id at h. (h.0, record { model_is = ap (λ cell. cell.model) h.1; field_is = ap (λ cell. cell.field) h.1 }, h.2))
    (λ y h.
    let there = there-ids t c.args.model y.cell.id (subst (λ m. IsSome (row_at t m y.cell.id)) h.1.model_is (row-of-formula models t y.kind y.cell h.0 h.2)) in
    (there.0, y.cell.id, ap (λ l. slice_get l there.0) c.requires.ids ∙ there.1, (h.0, λ i. record { model = h.1.model_is i; id = y.cell.id; field = h.1.field_is i }, h.2)))
    c.loop-id.invariant.found
