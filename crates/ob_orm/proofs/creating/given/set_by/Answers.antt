use Rattle.std.proofs.Common.{sym, ◌∙◌}
use Rattle.ob_orm.proofs.GivenFields.{set-flat, set-found, set-nothing}
use Rattle.ob_orm.proofs.creating.given.set_by.Goals as goal

pub returns-then-is_settable-clause-given : goal.returns-then-is_settable-clause-given
returns-then-is_settable-clause-given c =
    set-found c.args.schema.now c.args.field.now c.as_str.result.now c.args.members.now.entries c.get.result c.as_str.ensures (sym c.is_settable.ensures ∙ c.if-is_settable.true) c.get.ensures.value

pub returns-then-is_settable-clause-flat : goal.returns-then-is_settable-clause-flat
returns-then-is_settable-clause-flat c = set-flat c.args.schema.now c.args.field.now c.get.result c.requires.keys (sym c.is_settable.ensures ∙ c.if-is_settable.true)

pub returns-else-is_settable-clause-given : goal.returns-else-is_settable-clause-given
returns-else-is_settable-clause-given c = set-nothing c.args.schema.now c.args.field.now c.args.members.now.entries (sym c.is_settable.ensures ∙ c.if-is_settable.false)
