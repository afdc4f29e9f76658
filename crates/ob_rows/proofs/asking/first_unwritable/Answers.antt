use Rattle.std.proofs.Common.{ap, sym, ◌∙◌}
use Rattle.std.specs.Prelude.{not}
use Rattle.ob_base.specs.declared.id.FieldNo.{FieldNo}
use Rattle.ob_rows.proofs.FoundFirst.{found-here, found-later}
use Rattle.ob_rows.specs.AskingSteps.{may_give}
use Rattle.ob_rows.proofs.asking.first_unwritable.Goals as goal

abbrev none : FieldNo
none = record { 0 = 0 }

pub returns-then-not-may_give : goal.returns-then-not-may_give
returns-then-not-may_give c =
    let test = λ (field : FieldNo). not (may_give c.args.by.now c.args.model field) in
    sym (c.loop-field.invariant ∙ found-here test c.args.fields.now c.loop-field.field-index none c.loop-field-test.true (ap not (sym c.may_give.ensures ∙ c.if-not-may_give.true)))

pub loop-field-preserved : goal.loop-field-preserved
loop-field-preserved c =
    let test = λ (field : FieldNo). not (may_give c.args.by.now c.args.model field) in
    c.loop-field.invariant ∙ found-later test c.args.fields.now c.loop-field.field-index none c.loop-field-test.true (ap not (sym c.may_give.ensures ∙ c.if-not-may_give.false))
