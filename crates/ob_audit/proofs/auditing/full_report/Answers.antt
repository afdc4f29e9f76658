use Rattle.std.proofs.Common.{◌++◌, ◌∷◌, [], List, ℕ, refl, true, ap, ◌∙◌}
use Rattle.ob_audit.specs.declared.report.Report.{Report}
use Rattle.ob_audit.proofs.Reported.{full-of}
use Rattle.ob_audit.proofs.auditing.full_report.Goals as goal

pub returns : goal.returns
returns c =
    let start : Report = record { lines = c.new.result; equal = true } in
    let two = c.add_sums.new.report in
    let three : Report = record { lines = c.push.new.self; equal = two.equal } in
    full-of c.args.tables.now c.args.stored.now start c.add_fields.new.report two three c.new.ensures refl c.in_ok-add_fields.ensures c.in_ok-add_sums.ensures
    (c.in_ok-push.ensures.ok ∙ ap (λ (t : List ℕ). two.lines ++ t ∷ []) c.in_ok-last.ensures) refl
