use Rattle.std.proofs.Common.{◌≡◌, ◌⊎◌, ◌∙◌, true, false, sym, ⊎_elim}
use Rattle.ob_base.specs.declared.refusal.Broken.{Broken}
use Rattle.ob_tables.specs.Finding.{Anywhere, BreaksIn, is_of_formulas, is_of_rows}
use Rattle.ob_tables.proofs.Everywhere.{all-kinds, first-or-sound, formulas-tied, so-tied, tied-so}
use Rattle.ob_tables.proofs.Finds.{finds-then}
use Rattle.ob_tables.proofs.soundness.first_broken.Goals as goal

contrary : {P : Type 0} → false ≡ true → P
contrary e = cc

pub find_in_formulas-requires : goal.find_in_formulas-requires
find_in_formulas-requires c = tied-so c.args.tables.now.models c.args.tables.now.tables (c.in_ok-find_in_rows.ensures.tied.0 c.if-findings.true).1

pub returns-then-findings : goal.returns-then-findings
returns-then-findings c =
    let models = c.args.tables.now.models in
    let t = c.args.tables.now.tables in
    let R : Broken → Type 0 = BreaksIn models t is_of_rows Anywhere in
    let F : Broken → Type 0 = BreaksIn models t is_of_formulas Anywhere in
    first-or-sound models t (λ b. R b ⊎ F b) c.no_findings-findings.result c.find_in_formulas.new.findings c.no_findings-findings.ensures.first
    (finds-then R F c.no_findings-findings.result c.find_in_rows.new.findings c.find_in_formulas.new.findings c.in_ok-find_in_rows.ensures c.in_ok-find_in_formulas.ensures)
    (λ b h. ⊎_elim (λ r. r.2) (λ f. f.2) h) (λ b h. all-kinds models t b h)

pub returns : goal.returns
returns c =
    let models = c.args.tables.now.models in
    let t = c.args.tables.now.tables in
    let R : Broken → Type 0 = BreaksIn models t is_of_rows Anywhere in
    let F : Broken → Type 0 = BreaksIn models t is_of_formulas Anywhere in
    first-or-sound models t R c.no_findings-findings.result c.find_in_rows.new.findings c.no_findings-findings.ensures.first c.in_ok-find_in_rows.ensures (λ b h. h.2)
    (λ b h. ⊎_elim (λ r. r) (λ f. contrary (sym c.if-findings.false ∙ c.in_ok-find_in_rows.ensures.tied.1 (c.no_findings-findings.ensures.tied, so-tied models t (formulas-tied models t b f)))) (all-kinds models t b h))
