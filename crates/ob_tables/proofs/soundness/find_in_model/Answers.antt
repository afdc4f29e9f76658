use Rattle.std.proofs.Common.{◌≡◌, ◌⊎◌, Some, None, Ok, Err, Result, sym, subst}
use Rattle.std.specs.Prelude.{OnOk}
use Rattle.ob_base.specs.declared.refusal.Broken.{Broken}
use Rattle.ob_schema.specs.Models.{model_at}
use Rattle.ob_tables.specs.Finding.{BreaksIn, Finds, IsOf, is_of_plain, is_of_rows, is_of_sets, is_of_trees}
use Rattle.ob_tables.proofs.Finds.{finds-as, finds-none, finds-then}
use Rattle.ob_tables.proofs.Everywhere.{Three, no-tree, none-breaks, three-back, three-to}
use Rattle.ob_tables.proofs.soundness.find_in_model.Goals as goal

on_ok : {T E : Type 0} (P Q : Type 0) (r : Result T E) → (P → Q) → OnOk r P → OnOk r Q
on_ok P Q (Ok x) f h = f h
on_ok P Q (Err e) f h = tt

pub returns-in-Some-parent : goal.returns-in-Some-parent
returns-in-Some-parent c =
    let models = c.args.tables.now.models in
    let t = c.args.tables.now.tables in
    let W = IsOf c.args.model in
    let P : Broken → Type 0 = BreaksIn models t is_of_plain W in
    let S : Broken → Type 0 = BreaksIn models t is_of_sets W in
    let T : Broken → Type 0 = BreaksIn models t is_of_trees W in
    on_ok (Finds T c.find_in_sets.new.findings c.find_in_tree.new.findings) (Finds (BreaksIn models t is_of_rows W) c.args.findings.now c.find_in_tree.new.findings) c.find_in_tree.result
    (λ found. finds-as (Three models t W) (BreaksIn models t is_of_rows W) c.args.findings.now c.find_in_tree.new.findings (three-to models t W) (three-back models t W)
    (finds-then (λ b. P b ⊎ S b) T c.args.findings.now c.find_in_sets.new.findings c.find_in_tree.new.findings
    (finds-then P S c.args.findings.now c.find_in_cells.new.findings c.find_in_sets.new.findings c.in_ok-find_in_cells.ensures c.in_ok-find_in_sets.ensures) found))
    c.find_in_tree.ensures

pub returns : goal.returns
returns c =
    let models = c.args.tables.now.models in
    let t = c.args.tables.now.tables in
    let W = IsOf c.args.model in
    let P : Broken → Type 0 = BreaksIn models t is_of_plain W in
    let S : Broken → Type 0 = BreaksIn models t is_of_sets W in
    let T : Broken → Type 0 = BreaksIn models t is_of_trees W in
    let at : Some c.in-Some.info.now ≡ model_at models c.args.model = subst (λ s. Some c.in-Some.info.now ≡ model_at s.models c.args.model) c.tables.view_is c.in-Some.ensures in
    let two = finds-then P S c.args.findings.now c.find_in_cells.new.findings c.find_in_sets.new.findings c.in_ok-find_in_cells.ensures c.in_ok-find_in_sets.ensures in
    finds-as (Three models t W) (BreaksIn models t is_of_rows W) c.args.findings.now c.find_in_sets.new.findings (three-to models t W) (three-back models t W)
    (finds-then (λ b. P b ⊎ S b) T c.args.findings.now c.find_in_sets.new.findings c.find_in_sets.new.findings two
    (finds-none T c.find_in_sets.new.findings (no-tree models t c.args.model c.in-Some.info.now (sym at) c.in-None.is)))

pub returns-in_default : goal.returns-in_default
returns-in_default c =
    let models = c.args.tables.now.models in
    let t = c.args.tables.now.tables in
    let none : None ≡ model_at models c.args.model = subst (λ s. None ≡ model_at s.models c.args.model) c.tables.view_is c.in_default.ensures in
    finds-none (BreaksIn models t is_of_rows (IsOf c.args.model)) c.args.findings.now (none-breaks models t c.fit_together.ensures.fits c.args.model (sym none))
