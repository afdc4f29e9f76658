use Rattle.std.proofs.Common.{◌∙◌, ap, sym, get_or, refl, map}
use Rattle.ob_base.specs.declared.id.RecId.{RecId}
use Rattle.ob_tables.specs.Sets.{member_values, shown_member}
use Rattle.ob_tables.proofs.ListedMembers.{members-all, members-more, members-passed}
use Rattle.ob_tables.proofs.unique.members_of.Goals as goal
use Rattle.ob_tables.proofs.unique.members_of.Goals.{in-Some+in_ok-push, in_default}

pub loop-id-init : goal.loop-id-init
loop-id-init c = ap (map shown_member) c.new-members.ensures.items

pub loop-id-preserved : goal.loop-id-preserved
loop-id-preserved c =
    let d : RecId = record { 0 = 0 } in
    elim c.match-branch-2.branch [
      | in-Some+in_ok-push w ↦
          members-more c.args.tables.now.tables c.args.model c.args.set.now c.args.ids.now c.loop-id.id-index d c.loop-id.members.items c.match-branch-2.members.items
          (record { id = get_or c.args.ids.now c.loop-id.id-index d; values = w.in-Some.values }) c.loop-id-test.true refl (sym c.in_ok-values.ensures ∙ ap member_values w.in-Some.is)
          (ap (λ v. v.items) w.members-is ∙ w.in_ok-push.ensures.items) c.loop-id.invariant
      | in_default w ↦
          members-passed c.args.tables.now.tables c.args.model c.args.set.now c.args.ids.now c.loop-id.id-index d c.loop-id.members.items c.match-branch-2.members.items c.loop-id-test.true
          (sym c.in_ok-values.ensures ∙ ap member_values w.in_default.is) (ap (λ v. v.items) w.members-is) c.loop-id.invariant
    ]

pub returns : goal.returns
returns c = members-all c.args.tables.now.tables c.args.model c.args.set.now c.args.ids.now c.loop-id.id-index c.loop-id.members.items c.loop-id-test.false c.loop-id.invariant
