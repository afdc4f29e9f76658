use Rattle.std.proofs.Common.{◌≡◌, Some, Ok, ap, ◌∙◌}
use Rattle.std.proofs.lemmas.Result.{IfOk-weaker}
use Rattle.ob_cache.proofs.Standings.{stands-are}
use Rattle.ob_cache.specs.Stages.{IsShown, Stages, seen}
use Rattle.ob_cache.specs.Standing.{OfStages}
use Rattle.ob_cache.proofs.engine.Engine.read.Goals as goal

pub returns-clause-value : goal.returns-clause-value
returns-clause-value g c =
    let held = c.args.self.now.held in
    let cell = c.args.cell in
    IfOk-weaker c.read.result (λ value. seen held cell ≡ Some (Ok value)) (λ value. OfStages _ held (λ at. IsShown at cell → seen at cell ≡ Some (Ok value)))
    (λ value is at stands shown. ap (λ (s : Stages). seen s cell) (stands-are _ held at stands c.requires.usable) ∙ is) c.read.ensures.value
