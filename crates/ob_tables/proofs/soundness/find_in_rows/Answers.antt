use Rattle.std.proofs.Common.{suc, subst, ap, add-one, arith}
use Rattle.ob_tables.specs.Finding.{Anywhere, BreaksIn, Finds, IsOf, is_of_rows}
use Rattle.ob_tables.proofs.Everywhere.{model-of-any, model-place}
use Rattle.ob_tables.proofs.Finds.{Below, below-more, below-none, finds-as}
use Rattle.ob_tables.proofs.soundness.find_in_rows.Goals as goal

pub loop-place-init : goal.loop-place-init
loop-place-init c = below-none (λ k. BreaksIn c.args.tables.now.models c.args.tables.now.tables is_of_rows (IsOf (record { 0 = suc k }))) c.args.findings.now

pub loop-place-preserved : goal.loop-place-preserved
loop-place-preserved c =
    let models = c.args.tables.now.models in
    let t = c.args.tables.now.tables in
    below-more (λ k. BreaksIn models t is_of_rows (IsOf (record { 0 = suc k }))) c.loop-place.place c.args.findings.now c.loop-place.findings c.find_in_model.new.findings c.loop-place.invariant
    (subst (λ n. Finds (BreaksIn models t is_of_rows (IsOf (record { 0 = n }))) c.loop-place.findings c.find_in_model.new.findings) (add-one c.loop-place.place) c.in_ok-find_in_model.ensures)

pub returns : goal.returns
returns c =
    let models = c.args.tables.now.models in
    let t = c.args.tables.now.tables in
    finds-as (Below (λ k. BreaksIn models t is_of_rows (IsOf (record { 0 = suc k }))) c.loop-place.place) (BreaksIn models t is_of_rows Anywhere) c.args.findings.now c.loop-place.findings
    (λ b h. (h.here.0, tt, h.here.2))
    (λ b h.
    let p = model-place models t c.fit_together.ensures.registry b.cell.model (model-of-any models t c.fit_together.ensures.fits b.kind b.cell h.0 h.2) in
    let low = p.2 in
    record { place = p.0; low = omega arith; here = (h.0, ap (λ n. record { 0 = n }) p.1, h.2) })
    c.loop-place.invariant
