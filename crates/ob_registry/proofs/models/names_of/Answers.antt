use Rattle.std.proofs.Common.{◌≡◌, ℕ, ◌+◌, ◌<◌, List, [], ◌∷◌, ◌++◌, length, take, true, refl, sym, ◌∙◌, arith, string_bytes}
use Rattle.std.proofs.lemmas.Map.Text.{btree_set_updates_text}
use Rattle.ob_definition.proofs.CallerLemmas.{value_more}
use Rattle.ob_registry.specs.ModelFields.{member_of, members_in}
use Rattle.ob_registry.proofs.MemberNames.{AreMemberNames-push}
use Rattle.ob_registry.proofs.models.names_of.Goals as goal

pub loop-member-preserved : goal.loop-member-preserved
loop-member-preserved c =
    let xs = c.args.members.now in
    let i = c.loop-member.member-index in
    let m = member_of c.member-item.result in
    let within : i < length xs = omega arith in
    let key : string_bytes c.in_ok-from_str.field-0 ≡ c.member-item.result.def.now.name = c.in_ok-from_str.ensures.ok ∙ c.as_str.ensures in
    let updates = λ (name : List ℕ). rw key at (btree_set_updates_text (string_bytes c.in_ok-from_str.field-0) c.loop-member.names c.insert.new.self true c.in_ok-insert.ensures.updates name) in
    let front : members_in (take (i + 1) xs) ≡ members_in (take i xs) ++ m ∷ [] = sym (value_more member_of xs i c.member-item.result m (members_in (take i xs)) within c.member-item.is refl refl) in
    rw front (AreMemberNames-push c.loop-member.names c.insert.new.self (members_in (take i xs)) m c.loop-member.invariant updates)
