use Rattle.std.proofs.Common.{◌≤◌, ◌+◌, List, ap, length, refl, subst, sym, ◌∙◌, arith}
use Rattle.std.proofs.lemmas.Bool.{false≢true}
use Rattle.ob_base.specs.declared.id.ModelNo.{ModelNo}
use Rattle.ob_cache.specs.Stages.{resting}
use Rattle.ob_cache.specs.Standing.{RestsAt, Stands}
use Rattle.ob_install.proofs.NewStores.{next-one, no-tables-but-empty, resting-sound}
use Rattle.ob_orm.proofs.CallerLemmas.{model-within}
use Rattle.ob_install.proofs.installing.is_new.Goals as goal
use Rattle.ob_schema.specs.Models.{IsRegistry}
use Rattle.ob_schema.specs.Tables.{Tables, next_of}
use Rattle.ob_schema.specs.declared.info.ModelInfo.{ModelInfo}

pub returns-clause-told : goal.returns-clause-told
returns-clause-told g c = λ tables rests.
    let held = c.args.engine.now.held in
    let models = held.models in
    let few = c.parts_fit_together.ensures.few in
    let all : length models ≤ c.loop-place.place = subst (λ (ms : List ModelInfo). length ms ≤ c.loop-place.place) c.schema.ensures (omega (arith, few, c.loop-place-test.false)) in (
      λ _. no-tables-but-empty models (subst IsRegistry c.schema.ensures c.parts_fit_together.ensures) tables (resting-sound (g.K.Keeper.kept c.args.engine.now.keeper.now) held tables rests)
          (λ model there. let low = model-within models model there in c.loop-place.invariant.told tables rests model there (omega (arith, all, low))),
      λ _. refl,
    )

pub returns-then-not-branch-clause-told : goal.returns-then-not-branch-clause-told
returns-then-not-branch-clause-told g c = λ tables rests.
    let held = c.args.engine.now.held in
    let same = c.loop-place.invariant.same in
    let model : ModelNo = record { 0 = c.loop-place.place + 1 } in
    let now : RestsAt (g.K.Keeper.kept c.loop-place.engine.keeper.now) c.loop-place.engine.held tables =
    subst (λ (ms : List ModelInfo). Stands (g.K.Keeper.kept c.loop-place.engine.keeper.now) c.loop-place.engine.held (resting ms tables)) (sym same.models) (same.stands (resting held.models tables) rests) in (
      λ wrong. absurd (false≢true wrong),
      λ is. absurd (false≢true (sym c.if-not-branch.true ∙ (c.in_ok-begins_anew.ensures.told tables now).1 (λ _. ap (λ (t : Tables). next_of t model) is ∙ next-one held.models model))),
    )
