-- Where memory is wanting, neither of the two words that are looked for first was there.
use Rattle.std.proofs.Common.{map, string_bytes, sym, ◌∙◌}
use Rattle.ob_words.proofs.Rows.{neither, not_asked}
use Rattle.ob_words.proofs.reading.asked_of.Goals as goal

pub returns-in_err-command : goal.returns-in_err-command
returns-in_err-command c =
    not_asked c.args.words.now c.from_residual.result c.from_residual.ensures.0
    (neither (map string_bytes c.args.words.now) (sym c.has_word.ensures ∙ c.if-has_word.false) (sym c.has_word-2.ensures ∙ c.if-has_word-2.false))
