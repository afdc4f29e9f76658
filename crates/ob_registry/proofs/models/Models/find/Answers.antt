-- The field stands at its number among those of the step's model.
use Rattle.std.proofs.Common.{List, subst}
use Rattle.std.specs.Slice.{IsItemAt}
use Rattle.ob_registry.specs.declared.model.Member.{Member as KeptMember}
use Rattle.ob_registry.proofs.MemberPlaces.{lent_member, member_found, member_lent, member_not_lent}
use Rattle.ob_registry.proofs.models.Models.find.Goals as goal

pub returns-in_err-checked_sub-clause-is : goal.returns-in_err-checked_sub-clause-is
returns-in_err-checked_sub-clause-is c =
    let model = c.in_ok-model.model.now in
    let r = c.from_residual-in_err-checked_sub.result in
    member_found c.args.self.now c.args.step model (lent_member r) c.in_ok-model.ensures.there
    (member_not_lent model.members.items c.args.step.field.0 r c.in_err-checked_sub.ensures c.from_residual-in_err-checked_sub.ensures)

pub returns-clause-is : goal.returns-clause-is
returns-clause-is c =
    let model = c.in_ok-model.model.now in
    let item : IsItemAt model.members.items c.in_ok-checked_sub.field-0 c.get.result =
    subst (λ (l : List KeptMember). IsItemAt l c.in_ok-checked_sub.field-0 c.get.result) c.deref.ensures.value c.get.ensures.lookup in
    member_found c.args.self.now c.args.step model (lent_member c.get.result) c.in_ok-model.ensures.there
    (member_lent model.members.items c.args.step.field.0 c.in_ok-checked_sub.field-0 c.get.result c.in_ok-checked_sub.ensures.0 c.in_ok-checked_sub.ensures.1 item)
