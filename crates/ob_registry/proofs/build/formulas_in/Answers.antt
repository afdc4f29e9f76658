use Rattle.std.proofs.Common.{◌+◌, [], List, Option, take, sym, subst}
use Rattle.std.specs.List.{AllZip}
use Rattle.ob_definition.specs.Findings.{Adds}
use Rattle.ob_definition.specs.Members.{Member}
use Rattle.ob_definition.proofs.CallerLemmas.{Adds-more, zip_more}
use Rattle.ob_registry.specs.declared.formulas.DraftFormula.{DraftFormula}
use Rattle.ob_registry.specs.declared.model.Member.{Member as KeptMember}
use Rattle.ob_registry.specs.ModelFields.{member_of, members_in}
use Rattle.ob_registry.specs.Telling.{AreFaultsOf, IsFormulaFault, IsFormulaOf}
use Rattle.ob_registry.proofs.FormulaLoops.{members_more}
use Rattle.ob_registry.proofs.PathRooms.{found_none}
use Rattle.ob_registry.proofs.build.formulas_in.Goals as goal

pub loop-member-init : goal.loop-member-init
loop-member-init c = record {
  formulas = subst (λ (l : List (Option DraftFormula)). AllZip (λ (m : KeptMember) formula. IsFormulaOf (record { models = c.args.models.now; number = c.args.number; member = member_of m }) formula) [] l)
      (sym c.new-formulas.ensures.items) tt;
  faults = found_none (λ (m : Member) why. IsFormulaFault (record { models = c.args.models.now; number = c.args.number; member = m }) why) c.args.first.now;
}

pub loop-member-preserved : goal.loop-member-preserved
loop-member-preserved c =
    let models = c.args.models.now in
    let number = c.args.number in
    let members = c.args.members.now in
    let i = c.loop-member.member-index in
    let m = c.member-item.result in
    record {
      formulas = subst (λ (l : List (Option DraftFormula)). AllZip (λ (k : KeptMember) formula. IsFormulaOf (record { models = models; number = number; member = member_of k }) formula) (take (i + 1) members) l)
          (sym c.in_ok-push.ensures.items)
          (zip_more (λ (k : KeptMember) (formula : Option DraftFormula). IsFormulaOf (record { models = models; number = number; member = member_of k }) formula) members i m c.loop-member.formulas.items c.in_ok-formula_of.field-0
          c.loop-member-test.true c.member-item.is c.loop-member.invariant.formulas c.in_ok-formula_of.ensures.formula);
      faults = subst (λ (l : List Member). Adds (AreFaultsOf models number l) c.args.first.now c.formula_of.new.first) (sym (members_more members i m c.loop-member-test.true c.member-item.is))
          (Adds-more (λ (k : Member) why. IsFormulaFault (record { models = models; number = number; member = k }) why) (members_in (take i members)) (member_of m) c.args.first.now c.loop-member.first c.formula_of.new.first
          c.loop-member.invariant.faults c.in_ok-formula_of.ensures.faults);
    }
