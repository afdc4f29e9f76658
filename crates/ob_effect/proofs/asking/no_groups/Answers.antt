use Rattle.ob_access.proofs.CallerLemmas.{no_members, none_member}
use Rattle.ob_effect.proofs.asking.no_groups.Goals as goal

pub returns-in-Ok-clause-groups : goal.returns-in-Ok-clause-groups
returns-in-Ok-clause-groups c =
    let own = c.args.policy.now.groups in
    let of = rw c.new.ensures at c.in-Ok.ensures.members in
    no_members c.in-Ok.groups (λ id is. none_member own id ((of id).0 is))
