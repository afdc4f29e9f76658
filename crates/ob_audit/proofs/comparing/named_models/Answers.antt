use Rattle.std.proofs.Common.{◌+◌, ◌++◌, ◌∷◌, [], ℕ, List, option_map, ap, sym, ◌∙◌}
use Rattle.ob_base.specs.declared.id.ModelNo.{ModelNo}
use Rattle.ob_audit.proofs.NamedModels.{named-more, named-pass}
use Rattle.ob_audit.proofs.comparing.named_models.Goals as goal
use Rattle.ob_audit.proofs.comparing.named_models.Goals.{in-Some+in_ok-try_clone+in_ok-push, in_default}

pub loop-place-preserved : goal.loop-place-preserved
loop-place-preserved c =
    let models = c.args.schema.now in
    let place = c.loop-place.place in
    let so_far = c.loop-place.named.items in
    let model : ModelNo = record { 0 = place + 1 } in
    elim c.match-find_model.branch [
      | in-Some+in_ok-try_clone+in_ok-push w ↦
          ap (λ v. v.items) w.named-is ∙ w.in_ok-push.ensures.items ∙ ap (λ (t : List ℕ). so_far ++ (model, t) ∷ []) w.in_ok-try_clone.ensures
          ∙ ap (λ (l : List (ModelNo × List ℕ)). l ++ (model, w.in-Some.info.now.name) ∷ []) c.loop-place.invariant ∙ sym (named-more models place w.in-Some.info.now (sym w.in-Some.ensures))
      | in_default w ↦ ap (λ v. v.items) w.named-is ∙ c.loop-place.invariant ∙ sym (named-pass models place (sym c.find_model.ensures ∙ ap (option_map (λ info. info.now)) w.in_default.is))
    ]
