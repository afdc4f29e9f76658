use Rattle.std.proofs.Common.{ap, not, ◌∙◌}
use Rattle.ob_call.specs.Forms.{fields_at}
use Rattle.ob_commands.proofs.OtherNames.{other-named, other-unnamed}
use Rattle.ob_commands.proofs.WrongObjects.{field_by_name}
use Rattle.ob_commands.proofs.holding.is_other_name.Goals as goal

pub returns-in-Some : goal.returns-in-Some
returns-in-Some c =
    ap not c.is_settable.ensures ∙ other-named c.args.schema.now c.args.model c.args.name.now c.in-Some.field c.info.result.now c.in-Some.ensures.named c.info.ensures
