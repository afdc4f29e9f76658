use Rattle.std.proofs.Common.{sym, ◌∙◌}
use Rattle.ob_schema.specs.Models.{field_at}
use Rattle.ob_orm.proofs.ParentFields.{value-typed}
use Rattle.ob_rows.proofs.CallerLemmas.{stamp_typed}
use Rattle.ob_orm.proofs.making.filling.filled_value.Goals as goal

pub returns-then-is_stamp-clause-typed : goal.returns-then-is_stamp-clause-typed
returns-then-is_stamp-clause-typed c =
    stamp_typed (field_at c.args.maker.now.schema.now c.args.model c.args.number) c.info-field.result.now c.args.made c.args.maker.now.author c.as_str-name.result.now c.stamp.result
    c.info-field.ensures c.as_str-name.ensures c.requires.makeable c.requires.moment (sym c.is_stamp.ensures ∙ c.if-is_stamp.true) c.stamp.ensures

pub returns-in_ok-try_clone-in-Some-clause-typed : goal.returns-in_ok-try_clone-in-Some-clause-typed
returns-in_ok-try_clone-in-Some-clause-typed c =
    rw c.in_ok-try_clone-in-Some.ensures (value-typed c.args.maker.now.schema.now c.args.model c.args.given.now c.args.number c.in-Some.value.now c.requires.typed (sym c.in-Some.ensures)).0
