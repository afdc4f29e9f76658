use Rattle.std.proofs.Common.{◌≡◌, ◌<◌, ◌∷◌, [], ◌++◌, length, true, false, sym, arith, nat_cmp}
use Rattle.std.specs.BTreeSet.{contains}
use Rattle.ob_call.proofs.MetIds.{IsGathered-new, IsGathered-old, IsGathered-pass}
use Rattle.ob_call.proofs.ids.distinct_ids.Goals as goal
use Rattle.ob_call.proofs.ids.distinct_ids.Goals.{in-Some+in_ok-insert+then-branch+in_ok-push, in-Some+in_ok-insert+else-branch, in_default}

pub loop-item-preserved : goal.loop-item-preserved
loop-item-preserved c =
    let items = c.args.items.now in let i = c.loop-item.item-index in let item = c.item-item.result in
    let ids = c.loop-item.ids.items in let seen = c.loop-item.seen in
    let below : i < length items = omega arith in
    elim c.match-id_of.branch [
      | in-Some+in_ok-insert+then-branch+in_ok-push w ↦ (let absent : contains nat_cmp seen w.in-Some.id ≡ false = grind arith in
          let pushed : c.match-id_of.ids.items ≡ ids ++ w.in-Some.id ∷ [] = grind arith in
          rw (pushed, w.seen-is) (IsGathered-new items i ids seen w.insert.new.self item w.in-Some.id below c.item-item.is (sym w.in-Some.ensures) absent w.in_ok-insert.ensures.updates.0 c.loop-item.invariant))
      | in-Some+in_ok-insert+else-branch w ↦ (let present : contains nat_cmp seen w.in-Some.id ≡ true = grind arith in
          rw (w.ids-is, w.seen-is) (IsGathered-old items i ids seen w.insert.new.self item w.in-Some.id below c.item-item.is (sym w.in-Some.ensures) present w.in_ok-insert.ensures.updates.0 c.loop-item.invariant))
      | in_default w ↦ rw (w.ids-is, w.seen-is) (IsGathered-pass items i ids seen item below c.item-item.is (sym w.in_default.ensures) c.loop-item.invariant)
    ]
