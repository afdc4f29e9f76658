use Rattle.ob_group.proofs.ToldGroups.{put-more}
use Rattle.serde_json.specs.View.{members_view}
use Rattle.ob_group.proofs.told_groups.put_amounts.Goals as goal

pub loop-number-preserved : goal.loop-number-preserved
loop-number-preserved c = record {
  told = λ held ids are after h.
      put-more held ids c.args.rows.now c.args.aggregates.now c.loop-number.number _ (members_view c.args.members.now.entries) (members_view c.loop-number.members.entries) (members_view c.put_amount.new.members.entries)
      c.loop-number-test.true are c.in_ok-put_amount.ensures.told (c.loop-number.invariant.told held ids are) after h;
  plain = c.in_ok-put_amount.ensures.plain;
}
