use Rattle.ob_definition.specs.Findings.{Adds}
use Rattle.ob_definition.specs.Members.{model_at}
use Rattle.ob_registry.specs.Modelling.{IsModelled}
use Rattle.ob_registry.specs.Telling.{IsKeyFault, IsParentFault}
use Rattle.ob_registry.proofs.ModelRooms.{count_told, model_told}
use Rattle.ob_schema.proofs.CallerLemmas.{known_both}
use Rattle.ob_registry.proofs.model_faults.model_faults.Goals as goal

pub returns : goal.returns
returns c =
    let models = c.args.models.now in
    let number = c.args.number in
    let model = c.model-model.result.now in
    let a = c.args.first.now in
    let b = c.at_entry.new.self in
    let e = c.order_faults.new.first in
    known_both (model_at models number.0) (λ g. IsModelled models g model) (λ g. Adds (IsParentFault models number g) b c.parent_faults.new.first) (λ g. Adds (IsKeyFault models number g) a e)
    (λ g is parent. model_told models number g model is a b c.parent_faults.new.first c.set_faults.new.first e
    (count_told models g model is c.last_entry.result c.last_entry.ensures.last c.last_entry.ensures.among c.then_some.result a b c.then_some.ensures c.in_ok-at_entry.ensures.found)
    parent c.in_ok-set_faults.ensures c.in_ok-order_faults.ensures) c.model-model.ensures c.in_ok-parent_faults.ensures
