use Rattle.std.proofs.Common.{◌≡◌, Some, Ok}
use Rattle.std.specs.Prelude.{IfSome}
use Rattle.std.proofs.lemmas.Result.{IfOk-weaker}
use Rattle.ob_cache.proofs.Seen.{held-seen}
use Rattle.ob_cache.specs.Rooms.{IsValueIn}
use Rattle.ob_cache.specs.Stages.{seen}
use Rattle.ob_cache.proofs.held.Held.told.Goals as goal

pub returns-in_default-clause-value : goal.returns-in_default-clause-value
returns-in_default-clause-value c =
    let stages = c.args.self.now in
    let held = c.self.inside in
    IfOk-weaker c.last_settled.result (IsValueIn (record { models = stages.models; tables = stages.settled }) c.args.cell) (λ told. IfSome told (λ v. seen stages c.args.cell ≡ Some (Ok v)))
    (held-seen held.schema.now held.flushed held.settled held.staged held.phase stages c.self.view_is c.self.invariant.0 c.args.cell c.info.result.now c.info.ensures c.in_default.not-Id c.in_default.not-Plain
    c.requires.usable c.requires.readable) c.last_settled.ensures.told
