-- The store was opened, and lines were served from the tables on that it then had.
use Rattle.std.proofs.Common.{List, inr, refl, subst}
use Rattle.ob_schema.specs.declared.info.ModelInfo.{ModelInfo}
use Rattle.ob_server.specs.Outside.{surroundings}
use Rattle.ob_server.specs.Session.{Session}
use Rattle.ob_server.specs.Setup.{over}
use Rattle.ob_server.proofs.OpenedStore.{opened_at}
use Rattle.ob_server.proofs.opening.filled_lines.Goals as goal

pub returns-in-Ok-clause-outcome : goal.returns-in-Ok-clause-outcome
returns-in-Ok-clause-outcome g c = λ first rests.
    let filled = c.in-Ok.ensures.begins first rests in
    let before = surroundings g.K.Keeper g.W.Sink g.C.Clock c.args.engine.now.keeper.now c.args.output.now c.args.clock.now in
    let mid = surroundings g.K.Keeper g.W.Sink g.C.Clock c.fill.new.engine.keeper.now c.args.output.now c.fill.new.clock in
    let now = surroundings g.K.Keeper g.W.Sink g.C.Clock c.serve_lines.new.engine.keeper.now c.serve_lines.new.output c.serve_lines.new.clock in
    let same = c.in-Ok.ensures.rests.models_are in
    let left = g.S.Source.left c.args.input.now in
    let left_now = g.S.Source.left c.serve_lines.new.input in
    inr (
      filled.0,
      mid,
      opened_at c.args.engine.now.held.models c.args.preset.now.rows first filled.0 c.fill.new.engine.held before mid same filled.1 filled.2 refl c.in-Ok.ensures.others c.in-Ok.ensures.count,
      subst (λ (models : List ModelInfo). Session (over c.args.terms.now models) filled.0 c.serve_lines.result left left_now mid now) same (c.serve_lines.ensures.session filled.0 filled.2),
    )
