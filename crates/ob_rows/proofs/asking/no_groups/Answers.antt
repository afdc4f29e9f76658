use Rattle.std.proofs.lemmas.Result.{IfOk-weaker}
use Rattle.ob_access.proofs.CallerLemmas.{no_members, none_member}
use Rattle.ob_rows.proofs.asking.no_groups.Goals as goal

pub returns : goal.returns
returns c =
    let own = c.args.policy.now.groups in
    let of = rw c.new.ensures at c.groups_of-2.ensures.members in
    IfOk-weaker c.groups_of-2.result _ _ (λ groups are. no_members groups (λ id is. none_member own id ((are id).0 is))) of
