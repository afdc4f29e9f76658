use Rattle.ob_io.specs.Slots.{shown_store}
use Rattle.ob_io.proofs.PageFits.{page_fits}
use Rattle.ob_io.proofs.sure_keeper.SureKeeperKeeper.page.Goals as goal

pub returns-clause-fits : goal.returns-clause-fits
returns-clause-fits c = page_fits (shown_store c.self.inside.slots) c.self.invariant c.args.model c.args.after c.args.most c.in_ok-page.field-0 c.in_ok-page.ensures
