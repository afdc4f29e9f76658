-- The list has the models, each at its place.
use Rattle.std.proofs.Common.{List, subst}
use Rattle.std.specs.Slice.{IsItemAt}
use Rattle.ob_definition.specs.Gathered.{Gathered}
use Rattle.ob_registry.specs.declared.model.Model.{Model}
use Rattle.ob_registry.specs.Modelling.{AreModelled}
use Rattle.ob_registry.proofs.ModelPlaces.{model_lent, model_not_lent}
use Rattle.ob_registry.proofs.models.Models.at.Goals as goal

pub returns-clause-there : goal.returns-clause-there
returns-clause-there c =
    let are : AreModelled c.args.self.now c.self.inside.list.items = subst (λ (models : List Gathered). AreModelled models c.self.inside.list.items) c.self.view_is c.self.invariant in
    let item : IsItemAt c.self.inside.list.items c.in_ok-checked_sub.field-0 c.get.result = subst (λ (l : List Model). IsItemAt l c.in_ok-checked_sub.field-0 c.get.result) c.deref.ensures.value c.get.ensures.lookup in
    model_lent c.args.self.now c.self.inside.list.items are c.args.number.0 c.in_ok-checked_sub.field-0 c.get.result c.in_ok-checked_sub.ensures.0 c.in_ok-checked_sub.ensures.1 item

pub returns-clause-none : goal.returns-clause-none
returns-clause-none c =
    let are : AreModelled c.args.self.now c.self.inside.list.items = subst (λ (models : List Gathered). AreModelled models c.self.inside.list.items) c.self.view_is c.self.invariant in
    let item : IsItemAt c.self.inside.list.items c.in_ok-checked_sub.field-0 c.get.result = subst (λ (l : List Model). IsItemAt l c.in_ok-checked_sub.field-0 c.get.result) c.deref.ensures.value c.get.ensures.lookup in
    model_not_lent c.args.self.now c.self.inside.list.items are c.args.number.0 c.in_ok-checked_sub.field-0 c.get.result c.in_ok-checked_sub.ensures.0 c.in_ok-checked_sub.ensures.1 item
