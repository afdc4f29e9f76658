-- The field of a name is read at its number.
use Rattle.std.proofs.Common.{Option, option_map, sym, ap, ◌∙◌, Bor}
use Rattle.std.specs.Prelude.{option_and_then}
use Rattle.ob_base.specs.declared.id.FieldNo.{FieldNo}
use Rattle.ob_registry.specs.declared.model.Member.{Member as KeptMember}
use Rattle.ob_schema.specs.Built.{numbered}
use Rattle.ob_registry.specs.ModelFields.{member_of, members_in, named_in}
use Rattle.ob_registry.proofs.ModelNumbers.{named_by_number, named_read}
use Rattle.ob_registry.proofs.model.Model.find.Goals as goal

pub returns-in_err-number : goal.returns-in_err-number
returns-in_err-number c =
    let front = named_in c.args.self.now.named c.args.self.now.members.items in
    ap (λ (o : Option (Bor KeptMember)). option_map (λ member. member_of member.now) o) c.from_residual.ensures
    ∙ sym (named_by_number front c.args.name.now ∙ ap (λ (o : Option FieldNo). option_and_then (λ number. numbered front number.0) o) (sym c.in_err-number.ensures.at))

pub returns : goal.returns
returns c =
    let fields = members_in c.args.self.now.members.items in
    let found = c.in_ok-number.ensures in
    sym (named_read fields c.args.self.now.named c.args.name.now c.in_ok-number.number (member_of c.member.result.now) (sym found.at) found.low found.within c.member.ensures)
