use Rattle.std.proofs.Common.{◌≡◌, List, ◌∷◌, ap, ◌∙◌}
use Rattle.std.proofs.lemmas.Result.{IfOk-weaker}
use Rattle.ob_base.specs.declared.place.PathStep.{PathStep}
use Rattle.ob_base.specs.declared.place.PathStep.TheVariants.{Item, Key}
use Rattle.ob_load.proofs.entry.entry_place.Goals as goal

pub returns : goal.returns
returns c =
    IfOk-weaker c.into_place.result (λ (p : List PathStep). p ≡ c.in_ok-under_key.field-0) (λ (p : List PathStep). p ≡ Key c.args.entry.table.now ∷ (Item c.args.entry.number ∷ c.args.wrong))
    (λ p is. is ∙ c.in_ok-under_key.ensures ∙ ap (λ (w : List PathStep). Key c.args.entry.table.now ∷ w) c.in_ok-wrong.ensures) c.into_place.ensures
