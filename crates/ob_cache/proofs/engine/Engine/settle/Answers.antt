use Rattle.std.proofs.Common.{length, subst, sym}
use Rattle.std.specs.Prelude.{IsOk}
use Rattle.std.proofs.lemmas.Result.{IfErr-weaker}
use Rattle.ob_cache.proofs.Standings.{held-stays, stands-are}
use Rattle.ob_cache.proofs.Ticking.{ticked-count}
use Rattle.ob_cache.specs.Evaluating.{AreEvaluated}
use Rattle.ob_cache.specs.Rooms.{ShowsUnsettled}
use Rattle.ob_cache.specs.Stages.{Stages}
use Rattle.ob_cache.specs.Telling.{sides_of}
use Rattle.ob_cache.proofs.engine.Engine.settle.Goals as goal

pub returns-clause-ticks : goal.returns-clause-ticks
returns-clause-ticks g c = let each = c.settle.ensures.evaluated in (length each.cells, each.ticks)

pub returns-clause-evaluations : goal.returns-clause-evaluations
returns-clause-evaluations g c =
    let each = c.settle.ensures.evaluated in
    let held = c.args.self.now.held in (
      each.cells,
      ticked-count g.L.Ledger.noted (length each.cells) c.args.steps.now c.settle.new.steps each.ticks,
      λ at stands. subst (λ (h : Stages). AreEvaluated h.models (sides_of h) (IsOk c.settle.result) each.cells) (sym (stands-are _ held at stands c.requires.usable)) each.evaluated,
    )

pub returns-clause-fault : goal.returns-clause-fault
returns-clause-fault g c = let held = c.args.self.now.held in IfErr-weaker c.settle.result (ShowsUnsettled held) _ (held-stays held _ _ c.requires.usable) c.settle.ensures.unsettled
