-- By the groups that the caller has in both.
use Rattle.ob_group.proofs.GroupIsolation.{groups_alike}
use Rattle.ob_group.proofs.laws.groups_go_by_views.Goals as goal

pub returns : goal.returns
returns c models policy asked one other info alike outcome tells =
    let both = alike tells.0 tells.1 in
    (tells.0, both.0, groups_alike models policy tells.0 asked.caller one other both.1 c.domains_go_by_fields.ensures asked info outcome tells.2)
