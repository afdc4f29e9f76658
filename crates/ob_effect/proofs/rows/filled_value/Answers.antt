use Rattle.std.proofs.Common.{Bor, true, sym, subst, ◌∙◌}
use Rattle.ob_base.specs.declared.value.Value.{Value}
use Rattle.ob_schema.specs.Fields.{HasFieldType}
use Rattle.ob_schema.specs.Models.{field_at}
use Rattle.ob_effect.proofs.GivenValues.{default_told, given_for, given_or, if_weaker}
use Rattle.ob_rows.proofs.CallerLemmas.{stamp_typed}
use Rattle.ob_effect.proofs.rows.filled_value.Goals as goal

pub returns-then-is_stamp : goal.returns-then-is_stamp
returns-then-is_stamp c =
    stamp_typed (field_at c.args.writer.now.schema.now c.args.model c.args.number) c.info-field.result.now true c.args.writer.now.author c.as_str-name.result.now c.stamp.result
    c.info-field.ensures c.as_str-name.ensures c.requires.makeable c.requires.moment (sym c.is_stamp.ensures ∙ c.if-is_stamp.true) c.stamp.ensures

pub returns-in_ok-try_clone-in-Some-or : goal.returns-in_ok-try_clone-in-Some-or
returns-in_ok-try_clone-in-Some-or c =
    let models = c.args.writer.now.schema.now in
    let o = field_at models c.args.model c.args.number in
    let given = given_for models c.args.model c.args.number c.args.given.now in
    subst (HasFieldType o) (sym c.in_ok-try_clone-in-Some-or.ensures) (given_or (λ (v : Bor Value). HasFieldType o v.now) c.value_for.result c.as_ref.result c.or.result c.in-Some-or.value
    c.or.ensures c.in-Some-or.is (if_weaker _ _ (λ v among. given v.now c.requires.given among) c.value_for.result c.value_for.ensures)
    (default_told o c.info-field.result.now c.as_ref.result c.info-field.ensures c.requires.makeable c.as_ref.ensures.value))
