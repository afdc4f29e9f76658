-- One id more.
use Rattle.std.proofs.Common.{◌≡◌, ◌++◌, ◌∷◌, [], List, false, true, not, get_or, filter, ap, sym, ◌∙◌}
use Rattle.std.proofs.lemmas.List.{take_all}
use Rattle.ob_base.specs.declared.id.RecId.{RecId}
use Rattle.ob_unlink.specs.Deletion.{leads_to_gone}
use Rattle.ob_rows.specs.RowSets.{has_key}
use Rattle.ob_unlink.proofs.LeftTargets.{below-here, kept-more, passed-over}
use Rattle.ob_unlink.proofs.unlinking.leaving.remaining.Goals as goal
use Rattle.ob_unlink.proofs.unlinking.leaving.remaining.Goals.{then-not-leads_to_gone+in_ok-push, else-not-leads_to_gone}

pub push-requires : goal.push-requires
push-requires c = rw c.loop-id.invariant (below-here (λ (id : RecId). not (leads_to_gone (has_key c.args.rows.now) c.args.field.now id)) c.args.ids.now c.loop-id.id-index c.loop-id-test.true c.requires)

pub loop-id-preserved : goal.loop-id-preserved
loop-id-preserved c =
    let stays = λ (id : RecId). not (leads_to_gone (has_key c.args.rows.now) c.args.field.now id) in
    let i = c.loop-id.id-index in let ids = c.args.ids.now in
    elim c.if-not-leads_to_gone.branch [
      | then-not-leads_to_gone+in_ok-push w ↦ (
          let passes : stays (get_or ids i (record { 0 = 0 })) ≡ true = sym (ap not c.leads_to_gone.ensures) ∙ ap not w.if-not-leads_to_gone.true in
          w.left-is ∙ w.in_ok-push.ensures.ok ∙ ap (λ (l : List RecId). l ++ get_or ids i (record { 0 = 0 }) ∷ []) c.loop-id.invariant ∙ sym (kept-more stays ids i c.loop-id-test.true passes))
      | else-not-leads_to_gone w ↦ (
          let fails : stays (get_or ids i (record { 0 = 0 })) ≡ false = sym (ap not c.leads_to_gone.ensures) ∙ ap not w.if-not-leads_to_gone.false in
          w.left-is ∙ c.loop-id.invariant ∙ sym (passed-over stays ids i c.loop-id-test.true fails))
    ]

pub returns : goal.returns
returns c = c.loop-id.invariant ∙ ap (filter (λ (id : RecId). not (leads_to_gone (has_key c.args.rows.now) c.args.field.now id))) (take_all c.loop-id.id-index c.args.ids.now c.loop-id-test.false)
