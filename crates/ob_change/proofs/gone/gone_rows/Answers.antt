-- One row more that is gone, or isn't.
use Rattle.std.proofs.Common.{◌+◌, List, sym, ap, subst, ◌∙◌}
use Rattle.std.proofs.lemmas.Bool.{false≢true}
use Rattle.ob_base.specs.declared.id.RowKey.{RowKey}
use Rattle.ob_change.specs.Changing.{models_of, sides_of}
use Rattle.ob_change.proofs.GoneRows.{Chosen, GoneKey, chosen-all, chosen-more, chosen-passed, gone-touched}
use Rattle.ob_change.proofs.gone.gone_rows.Goals as goal
use Rattle.ob_change.proofs.gone.gone_rows.Goals.{then-is_gone+in_ok-push, else-is_gone}

pub loop-key-preserved : goal.loop-key-preserved
loop-key-preserved c =
    let P = GoneKey (models_of c.args.change) (sides_of c.args.change) in
    let touched = c.args.change.touched.now in
    let i = c.loop-key.key-index in
    elim c.if-is_gone.branch [
      | then-is_gone+in_ok-push w ↦
          chosen-more P touched i _ c.loop-key-test.true c.loop-key.gone.items c.loop-key.invariant c.if-is_gone.gone.items (ap (λ v. v.items) w.gone-is ∙ w.in_ok-push.ensures.items)
          (c.is_gone.ensures.0 w.if-is_gone.true)
      | else-is_gone w ↦ subst (λ (l : List RowKey). Chosen P touched (i + 1) l) (sym (ap (λ v. v.items) w.gone-is))
          (chosen-passed P touched i _ c.loop-key-test.true c.loop-key.gone.items c.loop-key.invariant (λ is. false≢true (sym w.if-is_gone.false ∙ c.is_gone.ensures.1 is)))
    ]

pub returns : goal.returns
returns c =
    let models = models_of c.args.change in
    let sides = sides_of c.args.change in
    chosen-all (GoneKey models sides) c.args.change.touched.now c.loop-key.key-index c.loop-key.gone.items c.loop-key-test.false c.loop-key.invariant
    (gone-touched models sides c.args.change.touched.now c.args.change.touches)
