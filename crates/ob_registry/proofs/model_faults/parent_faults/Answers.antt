use Rattle.std.proofs.Common.{◌∙◌, List, Option, ap, sym, ℕ}
use Rattle.std.specs.Borrow.{Bor}
use Rattle.std.specs.Prelude.{option_map}
use Rattle.ob_definition.specs.Findings.{Adds, Tells}
use Rattle.ob_definition.specs.Gathered.{Gathered}
use Rattle.ob_definition.specs.Members.{members_of, model_at, named}
use Rattle.ob_registry.specs.Modelling.{IsModelled}
use Rattle.ob_registry.specs.Telling.{IsParentFault, IsParentWrong}
use Rattle.ob_registry.proofs.ModelRooms.{no_parent_told, parent_told}
use Rattle.ob_schema.proofs.CallerLemmas.{known_both, known_on}
use Rattle.ob_registry.proofs.model_faults.parent_faults.Goals as goal

pub returns-in_ok-at_entry : goal.returns-in_ok-at_entry
returns-in_ok-at_entry c =
    let models = c.args.models.now in
    let number = c.args.number in
    let model = c.model.result.now in
    let name = c.in-Some.parent.now in
    known_both (model_at models number.0) (λ g. IsModelled models g model) (λ g. Tells (IsParentWrong models number (named (members_of models g) name)) c.wrong_parent.result)
    (λ g. Adds (IsParentFault models number g) c.args.first.now c.at_entry.new.self)
    (λ g is tells. parent_told models number g c.gathered.inside.entry name c.wrong_parent.result c.args.first.now c.at_entry.new.self
    (ap (λ (m : Gathered). m.parent) (sym is.gathered) ∙ ap (λ (m : Gathered). m.parent) (sym c.gathered.view_is) ∙ ap (λ (o : Option (Bor (List ℕ))). option_map (λ text. text.now) o) c.in-Some.is)
    (ap (λ (m : Gathered). m.entry) c.gathered.view_is ∙ ap (λ (m : Gathered). m.entry) is.gathered) tells c.in_ok-at_entry.ensures.found) c.model.ensures c.wrong_parent.ensures

pub returns-in_default : goal.returns-in_default
returns-in_default c =
    let models = c.args.models.now in
    let number = c.args.number in
    let model = c.model.result.now in
    known_on (model_at models number.0) (λ g. IsModelled models g model) (λ g. Adds (IsParentFault models number g) c.args.first.now c.args.first.now)
    (λ g _ is. no_parent_told models number g c.args.first.now
    (ap (λ (m : Gathered). m.parent) (sym is.gathered) ∙ ap (λ (m : Gathered). m.parent) (sym c.gathered.view_is) ∙ ap (λ (o : Option (Bor (List ℕ))). option_map (λ text. text.now) o) c.in_default.is)) c.model.ensures
