use Rattle.ob_cache.proofs.Pages.{model-there}
use Rattle.ob_cache.specs.Stages.{IsKeptRelation}
use Rattle.ob_cache.proofs.engine.Engine.holders.Goals as goal

pub holders-requires : goal.holders-requires
holders-requires g c = model-there c.args.self.now.held.models c.args.model c.args.field IsKeptRelation c.requires.field
