use Rattle.std.proofs.Common.{◌∙◌, ap, option_map, sym}
use Rattle.ob_base.specs.declared.id.ModelNo.{ModelNo}
use Rattle.ob_base.specs.declared.refusal.Op.TheVariants as op
use Rattle.ob_orm.proofs.Withheld.{wrong-tests}
use Rattle.ob_rows.specs.Rights.{first_unwritable}
use Rattle.ob_orm.specs.ObjectSteps.{object_view}
use Rattle.ob_orm.proofs.writing.barring.test_writable.Goals as goal

-- a value that hasn't its form
pub returns-in-Some-wrong : goal.returns-in-Some-wrong
returns-in-Some-wrong c =
    let by = c.args.by.now in
    wrong-tests by.policy.now by.groups.now by.user c.args.model c.args.rows.now (object_view c.args.object.now) c.in-Some-wrong.place c.malformed.result
    (sym c.withheld.ensures ∙ ap (option_map (λ (m : ModelNo). (op.Write, m))) c.in_default.is)
    (ap (first_unwritable by.policy.now by.groups.now by.user c.args.model) (sym c.as_slice.ensures.value) ∙ sym c.first_unwritable.ensures ∙ c.in_default-first_unwritable.is)
    c.in-Some-wrong.is c.malformed.ensures
