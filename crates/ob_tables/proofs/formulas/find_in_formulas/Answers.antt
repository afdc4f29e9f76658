use Rattle.std.proofs.Common.{suc, sym, subst, ap, add-one, arith}
use Rattle.std.specs.Prelude.{IfSome}
use Rattle.std.specs.BTreeMap as tree
use Rattle.std.specs.Map.{lookup}
use Rattle.ob_base.specs.BrokenOrder.{cell_order}
use Rattle.ob_schema.specs.Tables.{Standing}
use Rattle.ob_schema.specs.Tied.{IsTied}
use Rattle.ob_tables.specs.Finding.{Anywhere, BreaksIn, Finds, IsOf, is_of_formulas}
use Rattle.ob_tables.specs.Settling.{IsOutcomeOf}
use Rattle.ob_tables.proofs.Everywhere.{model-place}
use Rattle.ob_tables.proofs.Finds.{Below, below-more, below-none, finds-as}
use Rattle.ob_tables.proofs.FormulaBreaks.{model-of-formula}
use Rattle.ob_tables.proofs.formulas.find_in_formulas.Goals as goal

pub loop-place-init : goal.loop-place-init
loop-place-init c =
    let models = c.of-given.result.tables.now.models in
    let t = c.of-given.result.tables.now.tables in
    record {
      right = λ q. subst (λ o. IfSome o (IsOutcomeOf models t q)) (sym (ap (lookup (tree.is_at (cell_order q))) c.new-outcomes.ensures.empty)) tt;
      found = below-none (λ k. BreaksIn models t is_of_formulas (IsOf (record { 0 = suc k }))) c.args.findings.now;
    }

pub find_in_model-requires-clause-tied : goal.find_in_model-requires-clause-tied
find_in_model-requires-clause-tied c = subst (λ (s : Standing). IsTied s.models s.tables) (sym c.of-given.ensures) c.requires

pub loop-place-preserved : goal.loop-place-preserved
loop-place-preserved c =
    let models = c.of-given.result.tables.now.models in
    let t = c.of-given.result.tables.now.tables in
    record {
      right = c.in_ok-find_in_model.ensures.right;
      found = below-more (λ k. BreaksIn models t is_of_formulas (IsOf (record { 0 = suc k }))) c.loop-place.place c.args.findings.now c.loop-place.findings c.find_in_model.new.findings c.loop-place.invariant.found
          (subst (λ n. Finds (BreaksIn models t is_of_formulas (IsOf (record { 0 = n }))) c.loop-place.findings c.find_in_model.new.findings) (add-one c.loop-place.place) c.in_ok-find_in_model.ensures.found);
    }

pub returns : goal.returns
returns c =
    let models = c.args.tables.now.models in
    let t = c.args.tables.now.tables in
    finds-as (Below (λ k. BreaksIn models t is_of_formulas (IsOf (record { 0 = suc k }))) c.loop-place.place) (BreaksIn models t is_of_formulas Anywhere) c.args.findings.now c.loop-place.findings
    (λ b h. (h.here.0, tt, h.here.2))
    (λ b h.
    let p = model-place models t c.fit_together.ensures.registry b.cell.model (model-of-formula models t b.kind b.cell h.0 h.2) in
    let low = p.2 in
    record { place = p.0; low = omega arith; here = (h.0, ap (λ n. record { 0 = n }) p.1, h.2) })
    (subst (λ (s : Standing). Finds (Below (λ k. BreaksIn s.models s.tables is_of_formulas (IsOf (record { 0 = suc k }))) c.loop-place.place) c.args.findings.now c.loop-place.findings) c.of-given.ensures c.loop-place.invariant.found)
