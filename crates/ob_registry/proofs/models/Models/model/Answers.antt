-- The list has the models, each at its place.
use Rattle.std.proofs.Common.{◌-◌, List, subst, arith, refl, length}
use Rattle.ob_definition.specs.Gathered.{Gathered}
use Rattle.std.proofs.lemmas.Option.{slice_get_read}
use Rattle.ob_registry.specs.Modelling.{AreModelled}
use Rattle.ob_registry.proofs.ModelPlaces.{model_read, place_within}
use Rattle.ob_registry.proofs.models.Models.model.Goals as goal

pub index-requires : goal.index-requires
index-requires c =
    let are : AreModelled c.args.self.now c.self.inside.list.items = subst (λ (models : List Gathered). AreModelled models c.self.inside.list.items) c.self.view_is c.self.invariant in
    let place = place_within c.args.self.now c.self.inside.list.items are c.args.number.0 c.requires in
    let size = c.self.inside.list.ok in
    omega arith

pub returns : goal.returns
returns c =
    let list = c.self.inside.list.items in
    let are : AreModelled c.args.self.now list = subst (λ (models : List Gathered). AreModelled models list) c.self.view_is c.self.invariant in
    let place = place_within c.args.self.now list are c.args.number.0 c.requires in
    model_read c.args.self.now list are c.args.number.0 (c.args.number.0 - 1) c.index.result.now place.0 refl
    (slice_get_read list (length list) (c.args.number.0 - 1) c.index.result.now refl place.1 c.index.ensures)
