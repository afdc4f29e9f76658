use Rattle.std.proofs.Common.{List, subst}
use Rattle.std.specs.List.{AllZip}
use Rattle.std.proofs.lemmas.Result.{IfOk-weaker}
use Rattle.ob_definition.specs.Findings.{Adds}
use Rattle.ob_registry.specs.declared.model.Member.{Member as KeptMember}
use Rattle.ob_registry.specs.ModelFields.{member_of, members_in}
use Rattle.ob_registry.specs.Telling.{AreFaultsOf, IsFormulaOf}
use Rattle.ob_registry.proofs.FormulaLoops.{model_found, model_made}
use Rattle.ob_registry.proofs.build.model_formulas.Goals as goal

pub returns-clause-formulas : goal.returns-clause-formulas
returns-clause-formulas c =
    let models = c.args.models.now in
    let number = c.args.number in
    IfOk-weaker c.formulas_in.result _ _
    (λ own zip. model_made models number c.model.result.now c.model.ensures own.items
    (subst (λ (l : List KeptMember). AllZip (λ m formula. IsFormulaOf (record { models = models; number = number; member = member_of m }) formula) l own.items) c.as_slice-members.ensures.value zip))
    c.formulas_in.ensures.formulas

pub returns-clause-faults : goal.returns-clause-faults
returns-clause-faults c =
    let models = c.args.models.now in
    let number = c.args.number in
    IfOk-weaker c.formulas_in.result _ _
    (λ _ adds. model_found models number c.model.result.now c.model.ensures c.args.first.now c.formulas_in.new.first
    (subst (λ (l : List KeptMember). Adds (AreFaultsOf models number (members_in l)) c.args.first.now c.formulas_in.new.first) c.as_slice-members.ensures.value adds))
    c.formulas_in.ensures.faults
