use Rattle.std.proofs.Common.{◌≡◌, false, sym, subst}
use Rattle.std.proofs.lemmas.Result.{IfOk-weaker}
use Rattle.ob_call.proofs.CallerLemmas.{put_plain}
use Rattle.serde_json.specs.Data.{Members}
use Rattle.serde_json.specs.View.{members_view, view}
use Rattle.serde_json.specs.Written.{members_have_float}
use Rattle.ob_group.proofs.told_groups.put_amount.Goals as goal

pub returns-clause-told : goal.returns-clause-told
returns-clause-told c = IfOk-weaker c.put_member.result _ _ (λ done is. (view c.in_ok-json.json, c.in_ok-json.ensures.told, is)) c.put_member.ensures

pub returns-clause-plain : goal.returns-clause-plain
returns-clause-plain c = IfOk-weaker c.put_member.result _ _
    (λ done is. subst (λ (m : Members). members_have_float m ≡ false) (sym is) (put_plain c.args.aggregate.now.key.now (view c.in_ok-json.json) (members_view c.args.members.now.entries) c.in_ok-json.ensures.plain c.requires)) c.put_member.ensures
