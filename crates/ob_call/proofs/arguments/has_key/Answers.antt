use Rattle.std.proofs.Common.{◌∙◌}
use Rattle.ob_call.proofs.Reading.{has_key_found}
use Rattle.ob_call.proofs.arguments.has_key.Goals as goal

pub returns-in-Object : goal.returns-in-Object
returns-in-Object c = c.is_some.ensures ∙ has_key_found c.args.json.now c.in-Object.members c.args.name.now c.get.result c.in-Object.is c.get.ensures.value
