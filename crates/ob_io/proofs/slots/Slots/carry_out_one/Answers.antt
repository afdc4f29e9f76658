use Rattle.std.proofs.Common.{Some, None, ap, ◌∙◌}
use Rattle.std.specs.FinMap as finite
use Rattle.ob_io.specs.Slots.{shown}
use Rattle.ob_io.proofs.Room.{rows_set, rows_room_kept, next_set, next_room_kept}
use Rattle.ob_io.proofs.slots.Slots.carry_out_one.Goals as goal

pub returns-in-Put-clause-carried : goal.returns-in-Put-clause-carried
returns-in-Put-clause-carried c =
    let s = c.args.self.now in
    rw c.in-Put.is (rows_set s c.set_slot.new.slots (record { model = c.in-Put.model; id = c.in-Put.row.id }) (Some c.in_order.result) c.set_slot.ensures.set
    ∙ ap (λ row. record { rows = finite.insert (shown s.rows.entries) (record { model = c.in-Put.model; id = c.in-Put.row.id }) row; next_ids = shown s.next_ids.entries }) c.in_order.ensures)

pub returns-in-Put-clause-kept : goal.returns-in-Put-clause-kept
returns-in-Put-clause-kept c = rows_room_kept c.args.self.now c.set_slot.new.slots c.set_slot.ensures.kept

pub returns-in-Gone-clause-carried : goal.returns-in-Gone-clause-carried
returns-in-Gone-clause-carried c =
    rw c.in-Gone.is (rows_set c.args.self.now c.set_slot-in-Gone.new.slots (record { model = c.in-Gone.model; id = c.in-Gone.id }) None c.set_slot-in-Gone.ensures.set)

pub returns-in-Gone-clause-kept : goal.returns-in-Gone-clause-kept
returns-in-Gone-clause-kept c = rows_room_kept c.args.self.now c.set_slot-in-Gone.new.slots c.set_slot-in-Gone.ensures.kept

pub returns-in-Next-clause-carried : goal.returns-in-Next-clause-carried
returns-in-Next-clause-carried c =
    rw c.in-Next.is (next_set c.args.self.now c.set_slot-in-Next.new.slots c.in-Next.model.0 (Some c.in-Next.next) c.set_slot-in-Next.ensures.set)

pub returns-in-Next-clause-kept : goal.returns-in-Next-clause-kept
returns-in-Next-clause-kept c = next_room_kept c.args.self.now c.set_slot-in-Next.new.slots c.set_slot-in-Next.ensures.kept
