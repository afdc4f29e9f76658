use Rattle.ob_io.proofs.Room.{rows_same, rows_room_kept, next_same, next_room_kept}
use Rattle.ob_io.proofs.slots.Slots.make_one_slot.Goals as goal

pub returns-in-Put-clause-same : goal.returns-in-Put-clause-same
returns-in-Put-clause-same c = rows_same c.args.self.now c.make_slot.new.slots c.make_slot.ensures.same

pub returns-in-Put-clause-kept : goal.returns-in-Put-clause-kept
returns-in-Put-clause-kept c = rows_room_kept c.args.self.now c.make_slot.new.slots c.make_slot.ensures.kept

pub returns-in-Gone-clause-same : goal.returns-in-Gone-clause-same
returns-in-Gone-clause-same c = rows_same c.args.self.now c.make_slot-in-Gone.new.slots c.make_slot-in-Gone.ensures.same

pub returns-in-Gone-clause-kept : goal.returns-in-Gone-clause-kept
returns-in-Gone-clause-kept c = rows_room_kept c.args.self.now c.make_slot-in-Gone.new.slots c.make_slot-in-Gone.ensures.kept

pub returns-in-Next-clause-same : goal.returns-in-Next-clause-same
returns-in-Next-clause-same c = next_same c.args.self.now c.make_slot-in-Next.new.slots c.make_slot-in-Next.ensures.same

pub returns-in-Next-clause-kept : goal.returns-in-Next-clause-kept
returns-in-Next-clause-kept c = next_room_kept c.args.self.now c.make_slot-in-Next.new.slots c.make_slot-in-Next.ensures.kept
