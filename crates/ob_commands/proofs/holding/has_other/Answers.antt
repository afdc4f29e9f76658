use Rattle.std.proofs.Common.{◌≡◌, ap, ◌∙◌}
use Rattle.std.specs.Map.{keys_of}
use Rattle.ob_call.specs.Forms.{fields_at}
use Rattle.ob_commands.proofs.OtherNames.{any_key, any_key-entries}
use Rattle.ob_commands.proofs.holding.has_other.Goals as goal

pub loop-key-init : goal.loop-key-init
loop-key-init c =
    let models = c.args.schema.now in let fields = fields_at models c.args.model in
    let es = c.args.members.now.entries in
    let same : keys_of es ≡ c.into_iter-key-iterator.result = cc in
    any_key-entries models fields es ∙ ap (any_key models fields) same
