-- The one member is the caller's id.
use Rattle.std.proofs.Common.{◌≡◌, eqb, ne_eqb, codes, false, Some, refl, sym, ap, ◌∙◌}
use Rattle.ob_domain.proofs.User.{user_is}
use Rattle.serde_json.proofs.Views.{members_len-members_view, view-Object}
use Rattle.serde_json.specs.Data.{object}
use Rattle.serde_json.specs.Events.{members_len}
use Rattle.serde_json.specs.Find.{get, get_member}
use Rattle.serde_json.specs.View.{members_view, view}
use Rattle.ob_domain.proofs.operand.is_user.Goals as goal

pub returns-then-len-eq1 : goal.returns-then-len-eq1
returns-then-len-eq1 c =
    let es = c.in-Object.members.entries in let ms = members_view es in
    let same : view c.args.json.now ≡ object ms = ap view c.in-Object.is ∙ view-Object c.in-Object.members in
    let found : get_member (codes "user") ms ≡ Some (view c.in-Some.user.now) = sym (c.in-Some.ensures ∙ ap (get (codes "user")) same) in
    let law = user_is ms (view c.in-Some.user.now) c.in-Some-as_str.text.now found (sym c.in-Some-as_str.ensures) in
    let one : members_len ms ≡ 1 = members_len-members_view es ∙ sym c.len.ensures.len ∙ c.if-len-eq1.true in
    rw (same, law, one) c.eq.ensures

pub returns-else-len-eq1 : goal.returns-else-len-eq1
returns-else-len-eq1 c =
    let es = c.in-Object.members.entries in let ms = members_view es in
    let same : view c.args.json.now ≡ object ms = ap view c.in-Object.is ∙ view-Object c.in-Object.members in
    let found : get_member (codes "user") ms ≡ Some (view c.in-Some.user.now) = sym (c.in-Some.ensures ∙ ap (get (codes "user")) same) in
    let law = user_is ms (view c.in-Some.user.now) c.in-Some-as_str.text.now found (sym c.in-Some-as_str.ensures) in
    let len : members_len ms ≡ c.len.result = members_len-members_view es ∙ sym c.len.ensures.len in
    let other : eqb c.len.result 1 ≡ false = ne_eqb c.len.result 1 c.if-len-eq1.false in
    rw (same, law, len, other) refl
