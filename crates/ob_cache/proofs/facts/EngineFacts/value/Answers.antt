use Rattle.std.proofs.Common.{◌≡◌, Ok, true, subst}
use Rattle.std.specs.Prelude.{IfErr, IfOk}
use Rattle.std.proofs.lemmas.Result.{IfErr-weaker, IfOk-weaker}
use Rattle.ob_cache.proofs.Telling.{read-failed, read-told}
use Rattle.ob_cache.specs.Stages.{IsUnreadIn, Stages}
use Rattle.ob_cache.specs.Telling.{FailsFacts, TellsFacts}
use Rattle.ob_io.specs.Cause.{Rose}
use Rattle.ob_schema.specs.Facts.{OfAllTold}
use Rattle.ob_schema.specs.Val.{val}
use Rattle.ob_cache.proofs.facts.EngineFacts.value.Goals as goal

pub returns-clause-value : goal.returns-clause-value
returns-clause-value g c =
    let kept = g.K.Keeper.kept c.args.self.now.keeper.now in
    let held = c.held.result.now in
    subst (λ (h : Stages). IfOk c.read_settled.result (λ value. OfAllTold (TellsFacts kept h) (λ told. value ≡ told.held c.args.cell))) c.held.ensures
    (IfOk-weaker c.read_settled.result (λ value. val held.models held.settled c.args.cell ≡ Ok value) (λ value. OfAllTold (TellsFacts kept held) (λ told. value ≡ told.held c.args.cell))
    (λ value is told tells. read-told kept held c.args.cell value is told tells) c.read_settled.ensures.value)

pub returns-clause-failed : goal.returns-clause-failed
returns-clause-failed g c =
    let keeper = c.args.self.now.keeper.now in
    let kept = g.K.Keeper.kept keeper in
    let rose = Rose (g.K.Keeper.faults keeper) (g.K.Keeper.faults keeper) in
    let held = c.held.result.now in
    subst (λ (h : Stages). OfAllTold (TellsFacts kept h) (λ told. told.knows c.args.cell.model c.args.cell.id ≡ true) → IfErr c.read_settled.result (FailsFacts (TellsFacts kept h) rose)) c.held.ensures
    (λ known. IfErr-weaker c.read_settled.result (IsUnreadIn held.settled ⊥ c.args.cell) (FailsFacts (TellsFacts kept held) rose) (read-failed kept held c.args.cell rose known) c.read_settled.ensures.fault) c.requires.row
