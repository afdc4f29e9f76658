-- Each link has its parent, in turn.
use Rattle.std.proofs.Common.{◌≡◌, List, Some, ◌∷◌, [], ◌++◌, map, ap, sym, ◌∙◌}
use Rattle.std.proofs.lemmas.List.{take_all}
use Rattle.ob_definition.specs.declared.definition.Inherits.{Inherits}
use Rattle.ob_definition.specs.declared.made.ParentLink.{ParentLink}
use Rattle.ob_definition.specs.Members.{links_of}
use Rattle.ob_schema.specs.declared.info.ParentInfo.{ParentInfo}
use Rattle.ob_registry.specs.Building.{parent_found}
use Rattle.ob_registry.specs.ModelFields.{named_in}
use Rattle.ob_registry.proofs.ParentsOf.{parents_linked, parents_modelled}
use Rattle.ob_registry.proofs.Somes.{map-map, none_from, none_more, some_more, somes}
use Rattle.ob_registry.proofs.building.parents_of.Goals as goal
use Rattle.ob_registry.proofs.building.parents_of.Goals.{in-Some+in_ok-push, in_default}

pub loop-link-preserved : goal.loop-link-preserved
loop-link-preserved c =
    let links = c.args.model.now.links.now in
    let f = λ (i : ParentLink). parent_found c.args.models.now (named_in c.args.model.now.named c.args.model.now.members.items) i.parent.now in
    let i = c.loop-link.link-index in
    let link = c.link-item.result in
    elim c.match-parent_of.branch [
      | in-Some+in_ok-push w ↦
          w.parents-is ∙ w.in_ok-push.ensures.ok ∙ ap (λ (l : List ParentInfo). l ++ w.in-Some.parent ∷ []) c.loop-link.invariant
          ∙ sym (some_more f links i link w.in-Some.parent c.loop-link-test.true c.link-item.is (sym c.parent_of.ensures ∙ w.in-Some.is))
      | in_default w ↦ w.parents-is ∙ c.loop-link.invariant ∙ sym (none_more f links i link c.loop-link-test.true c.link-item.is (sym c.parent_of.ensures ∙ none_from c.parent_of.result w.in_default.not-Some))
    ]

pub returns-clause-links : goal.returns-clause-links
returns-clause-links c = λ g is.
    let links = c.args.model.now.links.now in
    let find = parent_found c.args.models.now (named_in c.args.model.now.named c.args.model.now.members.items) in
    let own = λ (i : ParentLink). i.parent.now in
    let whole = take_all c.loop-link.link-index links c.loop-link-test.false in
    let all : c.loop-link.parents ≡ somes (map find (links_of c.args.models.now g)) =
    c.loop-link.invariant ∙ ap (λ (l : List ParentLink). somes (map (λ (i : ParentLink). find i.parent.now) l)) whole ∙ ap somes (sym (map-map own find links)) ∙ ap (λ (l : List Inherits). somes (map find l)) is.links.parents in
    ap (λ (l : List ParentInfo). map (λ i. Some i.link) l) all ∙ parents_linked c.args.models.now g c.args.model.now is

pub returns-clause-models : goal.returns-clause-models
returns-clause-models c = λ g is.
    let links = c.args.model.now.links.now in
    let find = parent_found c.args.models.now (named_in c.args.model.now.named c.args.model.now.members.items) in
    let own = λ (i : ParentLink). i.parent.now in
    let whole = take_all c.loop-link.link-index links c.loop-link-test.false in
    let all : c.loop-link.parents ≡ somes (map find (links_of c.args.models.now g)) =
    c.loop-link.invariant ∙ ap (λ (l : List ParentLink). somes (map (λ (i : ParentLink). find i.parent.now) l)) whole ∙ ap somes (sym (map-map own find links)) ∙ ap (λ (l : List Inherits). somes (map find l)) is.links.parents in
    ap (λ (l : List ParentInfo). map (λ i. Some i.model) l) all ∙ parents_modelled c.args.models.now g c.args.model.now is
