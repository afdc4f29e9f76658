use Rattle.std.proofs.Common.{◌≡◌, ◌∙◌, suc, Some, None, ap, sym, subst, add-one, arith, option_map}
use Rattle.ob_schema.specs.Models.{model_at}
use Rattle.ob_schema.specs.Tables.{Standing}
use Rattle.ob_tables.specs.Finding.{BreaksIn, Finds, IsIn, IsOf, is_of_formulas}
use Rattle.ob_tables.proofs.Finds.{Below, below-more, below-none, finds-as, finds-none}
use Rattle.ob_tables.proofs.FormulaBreaks.{no-model-breaks, place-of-formula}
use Rattle.ob_tables.proofs.formulas.find_in_model.Goals as goal

pub loop-place-init : goal.loop-place-init
loop-place-init c = record {
  right = c.requires.right;
  found = below-none (λ k. BreaksIn c.args.given.now.tables.now.models c.args.given.now.tables.now.tables is_of_formulas (IsIn c.args.model (record { 0 = suc k }))) c.args.findings.now;
}

pub loop-place-preserved : goal.loop-place-preserved
loop-place-preserved c =
    let models = c.args.given.now.tables.now.models in
    let t = c.args.given.now.tables.now.tables in
    record {
      right = c.in_ok-find_in_column.ensures.right;
      found = below-more (λ k. BreaksIn models t is_of_formulas (IsIn c.args.model (record { 0 = suc k }))) c.loop-place.place c.args.findings.now c.loop-place.findings c.find_in_column.new.findings c.loop-place.invariant.found
          (subst (λ n. Finds (BreaksIn models t is_of_formulas (IsIn c.args.model (record { 0 = n }))) c.loop-place.findings c.find_in_column.new.findings) (add-one c.loop-place.place) c.in_ok-find_in_column.ensures.found);
    }

pub overflow_add-place-end : goal.overflow_add-place-end
overflow_add-place-end c =
    let at : model_at c.args.given.now.tables.now.models c.args.model ≡ Some c.in-Some.info.now =
    sym (ap (λ (s : Standing). model_at s.models c.args.model) c.tables.view_is) ∙ sym c.find_model.ensures ∙ ap (option_map (λ i. i.now)) c.in-Some.is in
    let law = c.fit_together.ensures.registry.each c.args.model c.in-Some.info.now at in
    omega (arith, law.few, law.few_hidden, c.len.ensures, c.len-2.ensures)

pub overflow_cast-number : goal.overflow_cast-number
overflow_cast-number c =
    let at : model_at c.args.given.now.tables.now.models c.args.model ≡ Some c.in-Some.info.now =
    sym (ap (λ (s : Standing). model_at s.models c.args.model) c.tables.view_is) ∙ sym c.find_model.ensures ∙ ap (option_map (λ i. i.now)) c.in-Some.is in
    let law = c.fit_together.ensures.registry.each c.args.model c.in-Some.info.now at in
    omega (arith, law.few, law.few_hidden, c.len.ensures, c.len-2.ensures, c.loop-place-test.true)

pub overflow_add-number : goal.overflow_add-number
overflow_add-number c =
    let at : model_at c.args.given.now.tables.now.models c.args.model ≡ Some c.in-Some.info.now =
    sym (ap (λ (s : Standing). model_at s.models c.args.model) c.tables.view_is) ∙ sym c.find_model.ensures ∙ ap (option_map (λ i. i.now)) c.in-Some.is in
    let law = c.fit_together.ensures.registry.each c.args.model c.in-Some.info.now at in
    omega (arith, law.few, law.few_hidden, c.len.ensures, c.len-2.ensures, c.loop-place-test.true)

pub returns-clause-found : goal.returns-clause-found
returns-clause-found c =
    let models = c.args.given.now.tables.now.models in
    let t = c.args.given.now.tables.now.tables in
    let m = c.in-Some.info.now in
    let at : model_at models c.args.model ≡ Some m =
    sym (ap (λ (s : Standing). model_at s.models c.args.model) c.tables.view_is) ∙ sym c.find_model.ensures ∙ ap (option_map (λ i. i.now)) c.in-Some.is in
    finds-as (Below (λ k. BreaksIn models t is_of_formulas (IsIn c.args.model (record { 0 = suc k }))) c.loop-place.place) (BreaksIn models t is_of_formulas (IsOf c.args.model)) c.args.findings.now c.loop-place.findings
    (λ b h. (h.here.0, h.here.1.model_is, h.here.2))
    (λ b h.
    let p = place-of-formula models t m b.kind b.cell (ap (model_at models) h.1 ∙ at) h.0 h.2 in
    let low = p.2 in
    record { place = p.0; low = omega (arith, low, c.len.ensures, c.len-2.ensures, c.loop-place-test.false); here = (h.0, record { model_is = h.1; field_is = ap (λ n. record { 0 = n }) p.1 }, h.2) })
    c.loop-place.invariant.found

pub returns-in_default : goal.returns-in_default
returns-in_default c =
    let models = c.args.given.now.tables.now.models in
    let t = c.args.given.now.tables.now.tables in
    let none : model_at models c.args.model ≡ None =
    sym (ap (λ (s : Standing). model_at s.models c.args.model) c.tables.view_is) ∙ sym c.find_model.ensures ∙ ap (option_map (λ i. i.now)) c.in_default.is in
    record {
      right = c.requires.right;
      found = finds-none (BreaksIn models t is_of_formulas (IsOf c.args.model)) c.args.findings.now (no-model-breaks models t c.args.model none);
    }
