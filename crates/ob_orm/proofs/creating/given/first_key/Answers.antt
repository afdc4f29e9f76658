use Rattle.std.proofs.Common.{◌≡◌, ap, ◌∙◌}
use Rattle.std.specs.Map.{keys_of}
use Rattle.ob_call.specs.Forms.{fields_at}
use Rattle.ob_rows.specs.Values.{is_settable_name}
use Rattle.ob_orm.proofs.Expected.{first_key-entries, first_refused}
use Rattle.ob_orm.proofs.creating.given.first_key.Goals as goal

pub loop-key-init : goal.loop-key-init
loop-key-init c =
    let es = c.args.members.now.entries in
    let test = is_settable_name c.args.schema.now (fields_at c.args.schema.now c.args.model) in
    let same : keys_of es ≡ c.into_iter-key-iterator.result = cc in
    first_key-entries test es ∙ ap (first_refused test) same
