-- The values differ, and their targets are those that the cell names on each side.
use Rattle.std.proofs.Common.{◌≡◌, ◌↔◌, ◌∙◌, [], List, Option, ap, false, subst, sym, true}
use Rattle.std.specs.Option.{option_map_or}
use Rattle.std.specs.Prelude.{Contains}
use Rattle.ob_base.specs.declared.id.RecId.{RecId}
use Rattle.ob_base.specs.declared.value.Value.{Value}
use Rattle.ob_change.proofs.edited.named_once.Goals as goal
use Rattle.ob_change.specs.Changing.{models_of, sides_of}
use Rattle.ob_change.specs.EditedSteps.{StandsOnce, named_by}
use Rattle.ob_schema.specs.Plain.{targets_of}

pub returns-clause-once : goal.returns-clause-once
returns-clause-once c =
    let before = c.in_ok-before.ensures.before in
    let behind = c.in_ok-before.ensures.behind in
    let was = c.ids_of.ensures.same ∙ ap (λ (v : Option Value). option_map_or targets_of v []) before in
    let is = c.ids_of-2.ensures.same ∙ ap (λ (v : Option Value). option_map_or targets_of v []) behind in
    let ids = c.in_ok-ids.ids.items in
    let named = named_by (models_of c.args.change) (sides_of c.args.change).before c.args.own in (
      λ same. let both : false ≡ true = c.if-are_same.ensures.1 (before ∙ same ∙ sym behind) in absurd cc,
      λ id. subst (λ (l : List RecId). Contains ids id ↔ StandsOnce named l id) is (subst (λ (l : List RecId). Contains ids id ↔ StandsOnce l c.ids_of-2.result.now id) was (c.in_ok-ids.ensures id)),
    )
