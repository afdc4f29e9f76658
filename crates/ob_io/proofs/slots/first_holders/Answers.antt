use Rattle.std.proofs.Common.{◌≡◌, ◌++◌, filter, length, sym, subst, ap, ◌∙◌, arith}
use Rattle.std.specs.List.Sorted.{IsStrictlySortedBy}
use Rattle.ob_io.specs.Store.{has_link}
use Rattle.ob_io.proofs.Held.{held, ids_of, held-occupied, kept-more, passed-over, rising-more, length-push}
use Rattle.ob_io.proofs.RisingIds.{id_cmp, sorted-from_rising, below-next, sorted-without}
use Rattle.ob_io.proofs.slots.first_holders.Goals as goal

pub loop-slot-init : goal.loop-slot-init
loop-slot-init c =
    let p = has_link c.args.link.field c.args.link.target in
    let same = c.into_iter-slot-iterator.ensures.into_iter_gives in
    record {
      all = ap (λ l. l ++ ids_of (filter p (held c.into_iter-slot-iterator.result))) c.new-ids.ensures ∙ ap (λ es. ids_of (filter p (held es))) same;
      few = omega (arith, ap length c.new-ids.ensures);
      rising = subst (λ l. IsStrictlySortedBy id_cmp (l ++ ids_of (held c.into_iter-slot-iterator.result))) (sym c.new-ids.ensures)
          (subst (λ es. IsStrictlySortedBy id_cmp (ids_of (held es))) (sym same) (sorted-from_rising (ids_of (held c.args.slots)) c.requires));
    }

pub push-requires : goal.push-requires
push-requires c =
    let ids = c.loop-slot.ids in
    let more = held-occupied c.loop-slot.slot-iterator c.next.new.self c.in-Some.field-0-0.now c.in-Some.slot.now c.in-Some-slot.row c.in-Some.ensures.steps c.in-Some-slot.is in
    below-next ids c.in-Some-slot.row.id (ids_of (held c.next.new.self)) (subst (λ rows. IsStrictlySortedBy id_cmp (ids ++ ids_of rows)) more c.loop-slot.invariant.rising)

pub loop-slot-preserved-in-Continue-1 : goal.loop-slot-preserved-in-Continue-1
loop-slot-preserved-in-Continue-1 c =
    let p = has_link c.args.link.field c.args.link.target in
    let ids = c.loop-slot.ids in
    let row = c.in-Some-slot.row in
    let left = held c.next.new.self in
    let more = held-occupied c.loop-slot.slot-iterator c.next.new.self c.in-Some.field-0-0.now c.in-Some.slot.now row c.in-Some.ensures.steps c.in-Some-slot.is in
    record {
      all = kept-more p ids c.push.new.self row left (ids_of (filter p (held c.args.slots))) c.in_ok-push.ensures.ok (sym c.is_holder.ensures ∙ c.if-is_holder.true)
          (subst (λ rows. ids ++ ids_of (filter p rows) ≡ ids_of (filter p (held c.args.slots))) more c.loop-slot.invariant.all);
      few = length-push ids c.push.new.self row.id c.args.most c.in_ok-push.ensures.ok c.loop-slot.invariant.few (omega arith);
      rising = rising-more ids c.push.new.self row.id (ids_of left) c.in_ok-push.ensures.ok (subst (λ rows. IsStrictlySortedBy id_cmp (ids ++ ids_of rows)) more c.loop-slot.invariant.rising);
    }

pub loop-slot-preserved-else-is_holder : goal.loop-slot-preserved-else-is_holder
loop-slot-preserved-else-is_holder c =
    let p = has_link c.args.link.field c.args.link.target in
    let ids = c.loop-slot.ids in
    let row = c.in-Some-slot.row in
    let left = held c.next.new.self in
    let more = held-occupied c.loop-slot.slot-iterator c.next.new.self c.in-Some.field-0-0.now c.in-Some.slot.now row c.in-Some.ensures.steps c.in-Some-slot.is in
    record {
      all = passed-over p ids row left (ids_of (filter p (held c.args.slots))) (sym c.is_holder.ensures ∙ c.if-is_holder.false)
          (subst (λ rows. ids ++ ids_of (filter p rows) ≡ ids_of (filter p (held c.args.slots))) more c.loop-slot.invariant.all);
      few = c.loop-slot.invariant.few;
      rising = sorted-without id_cmp ids row.id (ids_of left) (subst (λ rows. IsStrictlySortedBy id_cmp (ids ++ ids_of rows)) more c.loop-slot.invariant.rising);
    }
