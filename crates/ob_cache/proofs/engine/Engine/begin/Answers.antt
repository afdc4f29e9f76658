use Rattle.ob_cache.proofs.Begun.{begun}
use Rattle.ob_cache.proofs.engine.Engine.begin.Goals as goal

pub returns-in-Ok-of-clause-stands : goal.returns-in-Ok-of-clause-stands
returns-in-Ok-of-clause-stands g c =
    begun (g.K.Keeper.kept c.args.keeper.now) (g.K.Keeper.kept c.open.new.keeper) c.in-Ok.whole c.args.schema.now c.in-Ok-of.held
    c.in-Ok.ensures.same c.in-Ok.ensures.models c.in-Ok-of.ensures.rests c.in-Ok.ensures.kept c.in-Ok-of.ensures.sound
