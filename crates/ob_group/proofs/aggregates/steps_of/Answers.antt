use Rattle.std.proofs.Common.{◌≡◌, ◌++◌, [], ◌∷◌, get_or, sym, arith, rules, ◌∙◌}
use Rattle.std.proofs.lemmas.Grind.{common_steps}
use Rattle.serde_json.specs.View.{view}
use Rattle.ob_call.specs.Forms.{fields_at}
use Rattle.ob_query.proofs.CallerLemmas.{names-more, names-none}
use Rattle.ob_group.specs.NamedGroups.{entry_field}
use Rattle.ob_schema.specs.Paths.{step_at}
use Rattle.ob_group.proofs.aggregates.steps_of.Goals as goal
use Rattle.ob_group.proofs.aggregates.steps_of.Goals.{in-Some+in_ok-push, in_default}

pub loop-item-preserved : goal.loop-item-preserved
loop-item-preserved c =
    let fields = fields_at c.args.schema.now c.args.model in
    let items = c.args.items.now in
    let i = c.loop-item.item-index in
    let item = c.item-item.result in
    let at : item ≡ get_or items i item = search rules in
    let h = step_at c.args.model in
    elim c.match-entry_field.branch [
      | in-Some+in_ok-push w ↦ (
          let pushed : c.match-entry_field.fields.items ≡ c.loop-item.fields.items ++ h w.in-Some.field ∷ [] = grind (arith, common_steps) in
          pushed ∙ names-more view (entry_field fields) h items i item c.loop-item-test.true at c.loop-item.fields.items w.in-Some.field (sym c.entry_field.ensures ∙ w.in-Some.is) c.loop-item.invariant)
      | in_default w ↦ (
          let kept : c.match-entry_field.fields.items ≡ c.loop-item.fields.items = grind (arith, common_steps) in
          kept ∙ names-none view (entry_field fields) h items i item c.loop-item-test.true at c.loop-item.fields.items (sym c.entry_field.ensures ∙ w.in_default.is) c.loop-item.invariant)
    ]
