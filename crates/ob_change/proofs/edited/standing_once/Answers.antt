-- What the one list has alone, and then what the other has.
use Rattle.ob_change.proofs.StandingAlone.{each-alone}
use Rattle.ob_change.proofs.edited.standing_once.Goals as goal

pub returns : goal.returns
returns c = each-alone c.args.was.now c.args.is.now c.new-ids.result.items c.add_alone.new.ids.items c.add_alone-2.new.ids.items c.new-ids.ensures.items c.in_ok-add_alone.ensures c.in_ok-add_alone-2.ensures
