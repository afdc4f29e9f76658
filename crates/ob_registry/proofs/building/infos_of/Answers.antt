-- One model for each list of formulas, in turn.
use Rattle.std.proofs.Common.{◌≡◌, ◌+◌, ◌≤◌, List, Some, [], ◌∷◌, ◌++◌, length, drop, take, sym, subst, ◌∙◌}
use Rattle.std.specs.Prelude.{All, slice_get}
use Rattle.std.specs.List.{AllZip}
use Rattle.std.specs.Vec.Iter.{into_iter_items, into_iter_len}
use Rattle.std.proofs.lemmas.List.{take_all}
use Rattle.std.proofs.lemmas.List.Elements.{All-push}
use Rattle.ob_definition.specs.Gathered.{Gathered}
use Rattle.ob_schema.specs.declared.info.ModelInfo.{ModelInfo}
use Rattle.ob_registry.specs.Building.{HasNativeDefaults}
use Rattle.ob_schema.specs.Built.{IsModelOf}
use Rattle.ob_registry.specs.Modelling.{AreModelled}
use Rattle.ob_registry.proofs.MadeFields.{drop-behind, slice_get-drop}
use Rattle.ob_registry.proofs.Placing.{all_done, as_many, lent_at, lent_within, made_at, steps_on}
use Rattle.ob_registry.proofs.RegistryPlaces.{registry_of}
use Rattle.ob_registry.proofs.building.infos_of.Goals as goal

pub bounds-list-place : goal.bounds-list-place
bounds-list-place c =
    let given : slice_get c.args.formulas.items c.loop-own.place ≡ Some c.in-Some.own =
    slice_get-drop c.loop-own.place c.args.formulas.items c.in-Some.own (into_iter_items c.next.new.self) (sym c.loop-own.invariant.rest ∙ c.in-Some.ensures.steps.0) in
    lent_within c.args.models.now c.models.inside.gathering.now c.models.inside.list.items c.as_slice-list.result.now c.args.formulas.items c.models.invariant c.models.view_is c.as_slice-list.ensures.value
    c.requires.formulas c.loop-own.place c.in-Some.own given

pub model_info-requires : goal.model_info-requires
model_info-requires c =
    let models = c.args.models.now in
    let formulas = c.args.formulas.items in
    let list = c.models.inside.list.items in
    let place = c.loop-own.place in
    let modelled : AreModelled models list = subst (λ (l : List Gathered). AreModelled l list) c.models.view_is c.models.invariant in
    let given : slice_get formulas place ≡ Some c.in-Some.own =
    slice_get-drop place formulas c.in-Some.own (into_iter_items c.next.new.self) (sym c.loop-own.invariant.rest ∙ c.in-Some.ensures.steps.0) in
    let here = lent_at models c.models.inside.gathering.now list c.as_slice-list.result.now formulas c.models.invariant c.models.view_is c.as_slice-list.ensures.value
    c.requires.formulas place c.in-Some.own given c.index-list-place.result c.index-list-place.is in
    as_many models c.requires.resolved formulas c.requires.formulas c.requires.strata list modelled place c.index-list-place.result c.in-Some.own here given

pub loop-own-preserved : goal.loop-own-preserved
loop-own-preserved c =
    let models = c.args.models.now in
    let formulas = c.args.formulas.items in
    let list = c.models.inside.list.items in
    let place = c.loop-own.place in
    let info = c.in_ok-model_info.field-0 in
    let modelled : AreModelled models list = subst (λ (l : List Gathered). AreModelled l list) c.models.view_is c.models.invariant in
    let head : drop place formulas ≡ c.in-Some.own ∷ into_iter_items c.next.new.self = sym c.loop-own.invariant.rest ∙ c.in-Some.ensures.steps.0 in
    let given : slice_get formulas place ≡ Some c.in-Some.own = slice_get-drop place formulas c.in-Some.own (into_iter_items c.next.new.self) head in
    let here = lent_at models c.models.inside.gathering.now list c.as_slice-list.result.now formulas c.models.invariant c.models.view_is c.as_slice-list.ensures.value
    c.requires.formulas place c.in-Some.own given c.index-list-place.result c.index-list-place.is in
    let grown : c.push.new.self ≡ c.loop-own.infos ++ info ∷ [] = c.in_ok-push.ensures.ok in
    record {
      rest = sym (drop-behind place formulas c.in-Some.own (into_iter_items c.next.new.self) head);
      left = steps_on place (into_iter_len c.loop-own.own-iterator) (into_iter_len c.next.new.self) (length formulas) c.loop-own.invariant.left c.in-Some.ensures.steps.1;
      of = subst (λ (l : List ModelInfo). AllZip (IsModelOf models) (take (place + 1) models) l) (sym grown)
          (made_at models c.requires.resolved formulas c.requires.formulas c.requires.strata list modelled place c.index-list-place.result c.in-Some.own here given
          c.loop-own.infos info c.loop-own.invariant.of c.in_ok-model_info.ensures.of);
      native = subst (λ (l : List ModelInfo). All HasNativeDefaults l) (sym grown) (All-push HasNativeDefaults c.loop-own.infos info c.loop-own.invariant.native c.in_ok-model_info.ensures.native);
    }

pub returns-clause-of : goal.returns-clause-of
returns-clause-of c =
    let models = c.args.models.now in
    let done : length models ≤ c.loop-own.place = all_done c.loop-own.place (into_iter_len c.loop-own.own-iterator) (length c.args.formulas.items) (length models)
    c.loop-own.invariant.left c.in-None.ensures.steps.0 c.requires.formulas.count in
    let all : take c.loop-own.place models ≡ models = take_all c.loop-own.place models done in
    subst (λ (l : List Gathered). AllZip (IsModelOf models) l c.loop-own.infos) all c.loop-own.invariant.of

pub returns-clause-places : goal.returns-clause-places
returns-clause-places c =
    let models = c.args.models.now in
    let list = c.models.inside.list.items in
    let modelled : AreModelled models list = subst (λ (l : List Gathered). AreModelled l list) c.models.view_is c.models.invariant in
    let done : length models ≤ c.loop-own.place = all_done c.loop-own.place (into_iter_len c.loop-own.own-iterator) (length c.args.formulas.items) (length models)
    c.loop-own.invariant.left c.in-None.ensures.steps.0 c.requires.formulas.count in
    let all : take c.loop-own.place models ≡ models = take_all c.loop-own.place models done in
    let of : AllZip (IsModelOf models) models c.loop-own.infos = subst (λ (l : List Gathered). AllZip (IsModelOf models) l c.loop-own.infos) all c.loop-own.invariant.of in
    registry_of models c.loop-own.infos c.requires.resolved of list modelled c.loop-own.invariant.native
