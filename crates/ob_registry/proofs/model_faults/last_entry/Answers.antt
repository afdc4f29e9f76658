use Rattle.std.proofs.Common.{◌≡◌, ◌∙◌, ap, subst, take, List}
use Rattle.std.proofs.lemmas.List.{take_all}
use Rattle.ob_registry.specs.declared.model.Member.{Member as KeptMember}
use Rattle.ob_registry.proofs.LastEntry.{IsLast, IsLast-more, either_max, named_above, named_among}
use Rattle.ob_registry.proofs.model_faults.last_entry.Goals as goal

pub loop-member-preserved : goal.loop-member-preserved
loop-member-preserved c =
    IsLast-more (λ m. m.entry) (take c.args.model.now.named c.deref.result.now) c.loop-member.member-index c.member-item.result c.loop-member.last c.max-last.result c.loop-member-test.true c.member-item.is c.loop-member.invariant
    (either_max c.loop-member.last c.member-item.result.entry c.max-last.result c.max-last.ensures)

pub returns-clause-last : goal.returns-clause-last
returns-clause-last c =
    let named = c.args.model.now.named in
    let all : take c.loop-member.member-index (take named c.deref.result.now) ≡ take named c.args.model.now.members.items =
    take_all c.loop-member.member-index (take named c.deref.result.now) c.loop-member-test.false ∙ ap (take named) c.deref.ensures.value in
    named_above named c.args.model.now.members.items c.loop-member.last (subst (λ (l : List KeptMember). IsLast (λ m. m.entry) l c.loop-member.last) all c.loop-member.invariant)

pub returns-clause-among : goal.returns-clause-among
returns-clause-among c =
    let named = c.args.model.now.named in
    let all : take c.loop-member.member-index (take named c.deref.result.now) ≡ take named c.args.model.now.members.items =
    take_all c.loop-member.member-index (take named c.deref.result.now) c.loop-member-test.false ∙ ap (take named) c.deref.ensures.value in
    named_among named c.args.model.now.members.items c.loop-member.last (subst (λ (l : List KeptMember). IsLast (λ m. m.entry) l c.loop-member.last) all c.loop-member.invariant)
