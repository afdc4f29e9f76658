use Rattle.ob_io.specs.Slots.{shown_store}
use Rattle.ob_io.proofs.PageFits.{holders_fit}
use Rattle.ob_io.proofs.sure_keeper.SureKeeperKeeper.holders.Goals as goal

pub returns-clause-fits : goal.returns-clause-fits
returns-clause-fits c = holders_fit (shown_store c.self.inside.slots) c.self.invariant c.args.model c.args.after c.args.field c.args.target c.args.most c.in_ok-holders.field-0 c.in_ok-holders.ensures
