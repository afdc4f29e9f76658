use Rattle.std.proofs.Common.{◌≡◌, ◌<◌, ◌+◌, List, length, sym, ap, subst, take, arith}
use Rattle.std.specs.List.{AllZip}
use Rattle.ob_definition.specs.Gathered.{Gathered}
use Rattle.ob_definition.specs.Making.{IsMade}
use Rattle.ob_definition.proofs.CallerLemmas.{zip_length}
use Rattle.ob_registry.specs.declared.model.Model.{Model}
use Rattle.ob_registry.specs.Modelling.{IsModelled}
use Rattle.ob_registry.proofs.MadeMembers.{zip_pushed, zip_some}
use Rattle.ob_registry.proofs.models.models_of.Goals as goal

pub bounds-made-place : goal.bounds-made-place
bounds-made-place c =
    let size : length c.args.made.now ≡ length c.args.gathering.now = zip_length (IsMade c.args.gathering.now) c.args.gathering.now c.args.made.now c.requires.made in
    let all = ap (λ (l : List Gathered). length l) c.models-place-end.ensures in
    omega arith

pub model_of-requires-clause-made : goal.model_of-requires-clause-made
model_of-requires-clause-made c =
    let models = c.args.gathering.now in
    let all = ap (λ (l : List Gathered). length l) c.models-place-end.ensures in
    let low : c.loop-place.place < length models = omega arith in
    zip_some (IsMade models) models c.args.made.now c.loop-place.place c.index-made-place.result c.requires.made low c.index-made-place.is

pub loop-place-preserved : goal.loop-place-preserved
loop-place-preserved c =
    let models = c.args.gathering.now in
    let all = ap (λ (l : List Gathered). length l) c.models-place-end.ensures in
    let low : c.loop-place.place < length models = omega arith in
    subst (λ (l : List Model). AllZip (IsModelled models) (take (c.loop-place.place + 1) models) l) (sym {A = List Model} c.in_ok-push.ensures.items)
    (zip_pushed (IsModelled models) models c.loop-place.place c.loop-place.list.items c.in_ok-model_of.field-0 low c.loop-place.invariant c.in_ok-model_of.ensures)
