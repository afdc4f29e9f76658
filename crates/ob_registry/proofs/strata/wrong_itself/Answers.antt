use Rattle.std.proofs.Common.{◌≡◌, List, Option, Some, None, sym, ap, subst, ◌∙◌}
use Rattle.std.specs.Prelude.{◌↔◌, Contains}
use Rattle.ob_registry.specs.declared.formulas.DraftFormula.{DraftFormula}
use Rattle.ob_schema.specs.declared.info.Path.{Path}
use Rattle.ob_schema.specs.declared.info.Step.{Step}
use Rattle.ob_registry.specs.Graphs.{IsSelfWrong, formula_in}
use Rattle.ob_registry.specs.ModelFields.{member_of}
use Rattle.ob_schema.specs.Strata.{IsPathOf}
use Rattle.ob_registry.specs.Telling.{IsFormulaOf, steps_in}
use Rattle.ob_registry.proofs.OwnFormulas.{formula-read, paths-of, some-formula}
use Rattle.ob_registry.proofs.SelfReading.{self-none, told-none}
use Rattle.ob_registry.proofs.strata.wrong_itself.Goals as goal

pub returns-in-Some : goal.returns-in-Some
returns-in-Some c =
    let is = c.requires.member.1 in
    let found = some-formula (IsFormulaOf (record { models = c.args.models.now; number = c.args.own.model; member = member_of c.args.member.now })) (formula_in c.args.formulas.now.items c.args.own)
    (c.requires.formulas.each c.args.own c.requires.member.0 (member_of c.args.member.now) is) in
    let here : formula_in c.args.formulas.now.items c.args.own ≡ Some (Some c.in-Some.formula) =
    formula-read c.args.formulas.now.items c.args.own found.0 c.index-2.result.now c.index.result.now found.1 c.index.ensures c.index-2.ensures ∙ ap (λ (o : Option DraftFormula). Some o) c.in-Some.is in
    c.wrong_self.ensures c.requires.member.0 is
    (subst (λ (kept : List Path). (path : List Step) → IsPathOf c.args.models.now c.args.own path ↔ Contains (steps_in kept) path) (sym c.as_slice.ensures)
    (paths-of c.args.models.now c.args.formulas.now.items c.requires.formulas c.args.own c.requires.member.0 (member_of c.args.member.now) is (Some c.in-Some.formula) here))

pub returns-in-None : goal.returns-in-None
returns-in-None c =
    let is = c.requires.member.1 in
    let found = some-formula (IsFormulaOf (record { models = c.args.models.now; number = c.args.own.model; member = member_of c.args.member.now })) (formula_in c.args.formulas.now.items c.args.own)
    (c.requires.formulas.each c.args.own c.requires.member.0 (member_of c.args.member.now) is) in
    let here : formula_in c.args.formulas.now.items c.args.own ≡ Some None =
    formula-read c.args.formulas.now.items c.args.own found.0 c.index-2.result.now c.index.result.now found.1 c.index.ensures c.index-2.ensures ∙ ap (λ (o : Option DraftFormula). Some o) c.in-None.is in
    told-none (IsSelfWrong c.args.models.now c.args.own (member_of c.args.member.now))
    (self-none c.args.models.now c.args.own (member_of c.args.member.now)
    (λ reads. (paths-of c.args.models.now c.args.formulas.now.items c.requires.formulas c.args.own c.requires.member.0 (member_of c.args.member.now) is None here _).0 reads.1.1))
