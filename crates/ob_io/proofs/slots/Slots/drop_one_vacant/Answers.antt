use Rattle.ob_io.proofs.Room.{rows_same, next_same}
use Rattle.ob_io.proofs.slots.Slots.drop_one_vacant.Goals as goal

pub returns-in-Put : goal.returns-in-Put
returns-in-Put c = rows_same c.args.self.now c.drop_if_vacant.new.slots c.drop_if_vacant.ensures

pub returns-in-Gone : goal.returns-in-Gone
returns-in-Gone c = rows_same c.args.self.now c.drop_if_vacant-in-Gone.new.slots c.drop_if_vacant-in-Gone.ensures

pub returns-in-Next : goal.returns-in-Next
returns-in-Next c = next_same c.args.self.now c.drop_if_vacant-in-Next.new.slots c.drop_if_vacant-in-Next.ensures
