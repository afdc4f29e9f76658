use Rattle.ob_access.proofs.CallerLemmas.{no_members, none_member}
use Rattle.ob_query.proofs.caller.no_groups.Goals as goal

pub returns-clause-groups : goal.returns-clause-groups
returns-clause-groups c =
    let members = rw c.new.ensures at c.in_ok-groups_of.ensures.members in
    no_members c.in_ok-groups_of.field-0 (λ id is. none_member c.args.policy.now.groups id ((members id).0 is))
