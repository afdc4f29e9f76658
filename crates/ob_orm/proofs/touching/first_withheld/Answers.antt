use Rattle.std.proofs.Common.{◌≡◌, ◌∙◌, Bool, List, get_or, ap, sym, true, false}
use Rattle.std.specs.Prelude.{find, not}
use Rattle.std.proofs.lemmas.List.{drop_all}
use Rattle.ob_base.specs.declared.refusal.Op.TheVariants as op
use Rattle.ob_rows.specs.AskingSteps.{may_by}
use Rattle.ob_rows.specs.Rights.{Asking}
use Rattle.ob_rows.proofs.CallerLemmas.{found-here, found-later}
use Rattle.ob_orm.proofs.touching.first_withheld.Goals as goal

abbrev none : Asking
none = (op.Read, record { 0 = 0 })

pub returns-then-not-may : goal.returns-then-not-may
returns-then-not-may c =
    let askings = c.args.askings.now in let i = c.loop-asking.asking-index in
    let lacks : not (may_by c.args.by.now (get_or askings i none)) ≡ true = ap not (sym c.may.ensures ∙ c.if-not-may.true) in
    sym (c.loop-asking.invariant ∙ found-here (λ asking. not (may_by c.args.by.now asking)) askings i none c.loop-asking-test.true lacks)

pub loop-asking-preserved : goal.loop-asking-preserved
loop-asking-preserved c =
    let askings = c.args.askings.now in let i = c.loop-asking.asking-index in
    let has : not (may_by c.args.by.now (get_or askings i none)) ≡ false = ap not (sym c.may.ensures ∙ c.if-not-may.false) in
    c.loop-asking.invariant ∙ found-later (λ asking. not (may_by c.args.by.now asking)) askings i none c.loop-asking-test.true has

pub returns : goal.returns
returns c = sym (c.loop-asking.invariant ∙ ap (find (λ asking. not (may_by c.args.by.now asking))) (drop_all c.loop-asking.asking-index c.args.askings.now c.loop-asking-test.false))
