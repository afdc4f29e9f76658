use Rattle.std.proofs.Common.{◌++◌, ◌∷◌, [], take, ap, sym, ◌∙◌}
use Rattle.std.proofs.lemmas.List.{take_more}
use Rattle.ob_tables.specs.After.{after, edited}
use Rattle.ob_tables.proofs.Edits.{after-last}
use Rattle.ob_tables.proofs.tables.Tables.edit.Goals as goal

pub loop-edit-preserved : goal.loop-edit-preserved
loop-edit-preserved c =
    let models = c.args.self.now.models in
    let before = c.args.self.now.tables in
    let edits = c.args.edits.now in
    let i = c.loop-edit.edit-index in
    let one = c.edit-item.result in
    let so_far = take i edits in
    record {
      models = c.in_ok-carry_out.ensures.models ∙ c.loop-edit.invariant.models;
      done = c.in_ok-carry_out.ensures.tables ∙ ap (λ m. edited m c.loop-edit.self.tables one) c.loop-edit.invariant.models ∙ ap (λ t. edited models t one) c.loop-edit.invariant.done
          ∙ sym (ap (after models before) (take_more edits i one c.loop-edit-test.true ∙ ap (λ e. so_far ++ e ∷ []) (sym c.edit-item.is)) ∙ after-last models before so_far one);
    }
