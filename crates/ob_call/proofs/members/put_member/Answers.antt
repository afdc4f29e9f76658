use Rattle.std.proofs.Common.{List, ℕ, ap, ◌∙◌}
use Rattle.serde_json.specs.Data.{put}
use Rattle.serde_json.specs.View.{members_view, view}
use Rattle.serde_json.proofs.Views.{members_view-insert_entry}
use Rattle.ob_call.proofs.members.put_member.Goals as goal

pub returns : goal.returns
returns c =
    ap members_view (let e = c.in_ok-insert.ensures.entries in e) ∙ members_view-insert_entry c.args.members.now.entries c.in_ok-name.name c.args.json
    ∙ ap (λ (k : List ℕ). put k (view c.args.json) (members_view c.args.members.now.entries)) c.in_ok-name.ensures.ok
