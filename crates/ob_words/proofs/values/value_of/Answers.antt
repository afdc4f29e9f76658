-- What the host reads of the digits is their value, where it isn't too large.
use Rattle.std.proofs.Common.{sym, ◌∙◌}
use Rattle.ob_words.proofs.Numbers.{read_number}
use Rattle.ob_words.proofs.values.value_of.Goals as goal

pub returns : goal.returns
returns c = c.ok.ensures.value ∙ read_number c.args.digits c.args.text.now c.parse.result (sym c.is_number.ensures ∙ c.if-not-is_number.false) c.parse.ensures.value.0
