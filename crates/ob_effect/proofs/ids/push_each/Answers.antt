-- Those before one are below it, as the whole rises.
use Rattle.std.proofs.Common.{rules}
use Rattle.ob_effect.proofs.RisingParts.{below-here}
use Rattle.ob_effect.proofs.ids.push_each.Goals as goal

pub push-requires : goal.push-requires
push-requires c = below-here c.args.list.now c.args.ids.now c.loop-id.list c.loop-id.id-index (record { 0 = 0 }) c.requires (search rules) c.loop-id.invariant
