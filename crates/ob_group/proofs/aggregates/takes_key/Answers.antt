use Rattle.std.proofs.Common.{◌≡◌, Bool, not, subst, sym, ap, ◌∙◌}
use Rattle.std.proofs.lemmas.Result.{IfOk-weaker}
use Rattle.ob_group.proofs.GroupTexts.{AreTaken-more}
use Rattle.ob_group.specs.GroupForms.{is_free, with_key}
use Rattle.ob_group.specs.GroupParts.{AreTaken, entry_view}
use Rattle.ob_group.specs.declared.aggregates.Entry.{Entry}
use Rattle.ob_group.proofs.aggregates.takes_key.Goals as goal

pub returns-in-Told-clause-free : goal.returns-in-Told-clause-free
returns-in-Told-clause-free c =
    IfOk-weaker c.take_key.result _ _
    (λ free is keys taken. is ∙ ap not (taken c.in-Told.aggregate.key.now) ∙ sym (ap (λ (e : Entry). is_free (entry_view e) keys) c.in-Told.is))
    c.take_key.ensures.free

pub returns-in-Told-clause-taken : goal.returns-in-Told-clause-taken
returns-in-Told-clause-taken c =
    IfOk-weaker c.take_key.result _ _
    (λ free updates keys taken. subst (λ (e : Entry). AreTaken (with_key (entry_view e) keys) c.take_key.new.taken) (sym c.in-Told.is) (AreTaken-more keys c.in-Told.aggregate.key.now c.args.taken.now c.take_key.new.taken taken updates))
    c.take_key.ensures.taken
