use Rattle.std.proofs.Common.{◌≡◌, Ok, ap, ◌∙◌}
use Rattle.std.proofs.lemmas.Result.{IfOk-weaker}
use Rattle.ob_cache.proofs.Standings.{stands-are}
use Rattle.ob_cache.specs.Stages.{Stages}
use Rattle.ob_cache.specs.Standing.{OfStages}
use Rattle.ob_schema.specs.Val.{val}
use Rattle.ob_cache.proofs.engine.Engine.read_settled.Goals as goal

pub returns-clause-value : goal.returns-clause-value
returns-clause-value g c =
    let held = c.args.self.now.held in
    let cell = c.args.cell in
    IfOk-weaker c.read_settled.result (λ value. val held.models held.settled cell ≡ Ok value) (λ value. OfStages _ held (λ at. val at.models at.settled cell ≡ Ok value))
    (λ value is at stands. ap (λ (s : Stages). val s.models s.settled cell) (stands-are _ held at stands c.requires.usable) ∙ is) c.read_settled.ensures.value
