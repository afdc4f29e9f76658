use Rattle.std.proofs.Common.{◌≡◌, ap, ◌∙◌}
use Rattle.std.specs.Map.{keys_of}
use Rattle.ob_call.specs.Forms.{fields_at}
use Rattle.ob_commands.proofs.WrongObjects.{unknown-entries, unknown_of}
use Rattle.ob_commands.proofs.asked.forms.unknown_key.Goals as goal

pub loop-key-init : goal.loop-key-init
loop-key-init c =
    let fields = fields_at c.args.schema.now c.args.model in
    let es = c.args.members.now.entries in
    let same : keys_of es ≡ c.into_iter-key-iterator.result = cc in
    unknown-entries fields es ∙ ap (unknown_of fields) same
