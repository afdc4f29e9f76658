use Rattle.std.proofs.Common.{◌+◌, ℕ, List, true, false, drop, get_or, ap, ◌∙◌}
use Rattle.ob_base.specs.NameBytes.{is_name_byte, is_letter, is_digit}
use Rattle.ob_syntax.specs.Lexemes.{is_quote, number_lexeme, word_lexeme}
use Rattle.ob_syntax.proofs.Tokens.{test-at, len-at, within-at, symbol-at, word-at, number-at, front-quote, front-symbol, run-some, run-boundary, run-passes, letter_is_name_byte, name_byte_is_ascii, digit_is_ascii}
use Rattle.ob_syntax.proofs.lexeme.token_at.Goals as goal

pub returns-then-is_letter-clause-some : goal.returns-then-is_letter-clause-some
returns-then-is_letter-clause-some c =
    let text = c.args.text.now in
    let start = c.args.start in
    let letter = test-at c.as_bytes.result.now text start c.as_bytes.ensures.value is_letter true c.if-is_letter.ensures in
    let len = len-at c.as_bytes.result.now text start c.as_bytes.ensures.value is_name_byte c.run_len-len.result c.run_len-len.ensures.len in
    run-some is_name_byte text start c.run_len-len.result len c.requires.inside (letter_is_name_byte (get_or text start 0) letter)

pub range-requires-clause-end_boundary : goal.range-requires-clause-end_boundary
range-requires-clause-end_boundary c =
    let text = c.args.text.now in
    let start = c.args.start in
    let letter = test-at c.as_bytes.result.now text start c.as_bytes.ensures.value is_letter true c.if-is_letter.ensures in
    let len = len-at c.as_bytes.result.now text start c.as_bytes.ensures.value is_name_byte c.run_len-len.result c.run_len-len.ensures.len in
    let within = within-at c.as_bytes.result.now text start c.as_bytes.ensures.value c.run_len-len.result c.run_len-len.ensures.within in
    let some = run-some is_name_byte text start c.run_len-len.result len c.requires.inside (letter_is_name_byte (get_or text start 0) letter) in
    run-boundary is_name_byte text start c.run_len-len.result len c.requires.inside name_byte_is_ascii c.utf8.text some within

pub returns-then-is_letter-clause-cut : goal.returns-then-is_letter-clause-cut
returns-then-is_letter-clause-cut c =
    let text = c.args.text.now in
    let start = c.args.start in
    let letter = test-at c.as_bytes.result.now text start c.as_bytes.ensures.value is_letter true c.if-is_letter.ensures in
    let len = len-at c.as_bytes.result.now text start c.as_bytes.ensures.value is_name_byte c.run_len-len.result c.run_len-len.ensures.len in
    let within = within-at c.as_bytes.result.now text start c.as_bytes.ensures.value c.run_len-len.result c.run_len-len.ensures.within in
    word-at text start c.run_len-len.result len c.requires.inside within letter _ (c.word.ensures ∙ ap (λ (run : List ℕ). word_lexeme run start) c.range.ensures.value)

pub range-requires-then-is_digit-clause-end_boundary : goal.range-requires-then-is_digit-clause-end_boundary
range-requires-then-is_digit-clause-end_boundary c =
    let text = c.args.text.now in
    let start = c.args.start in
    let digit = test-at c.as_bytes.result.now text start c.as_bytes.ensures.value is_digit true c.if-is_digit.ensures in
    let len = len-at c.as_bytes.result.now text start c.as_bytes.ensures.value is_digit c.digits_len-len.result c.digits_len-len.ensures.len in
    let within = within-at c.as_bytes.result.now text start c.as_bytes.ensures.value c.digits_len-len.result c.digits_len-len.ensures.within in
    let some = run-some is_digit text start c.digits_len-len.result len c.requires.inside digit in
    run-boundary is_digit text start c.digits_len-len.result len c.requires.inside digit_is_ascii c.utf8.text some within

pub number-requires-clause-digits : goal.number-requires-clause-digits
number-requires-clause-digits c =
    let text = c.args.text.now in
    let start = c.args.start in
    let len = len-at c.as_bytes.result.now text start c.as_bytes.ensures.value is_digit c.digits_len-len.result c.digits_len-len.ensures.len in
    rw c.range-then-is_digit.ensures.value (λ k d below. run-passes is_digit text start c.digits_len-len.result len c.requires.inside k d below)

pub returns-then-is_digit-clause-cut : goal.returns-then-is_digit-clause-cut
returns-then-is_digit-clause-cut c =
    let text = c.args.text.now in
    let start = c.args.start in
    let letter = test-at c.as_bytes.result.now text start c.as_bytes.ensures.value is_letter false c.if-is_letter.ensures in
    let digit = test-at c.as_bytes.result.now text start c.as_bytes.ensures.value is_digit true c.if-is_digit.ensures in
    let len = len-at c.as_bytes.result.now text start c.as_bytes.ensures.value is_digit c.digits_len-len.result c.digits_len-len.ensures.len in
    let within = within-at c.as_bytes.result.now text start c.as_bytes.ensures.value c.digits_len-len.result c.digits_len-len.ensures.within in
    number-at text start c.digits_len-len.result len c.requires.inside within letter digit _ (c.number.ensures ∙ ap (λ (run : List ℕ). number_lexeme run start) c.range-then-is_digit.ensures.value)

pub returns-then-is_quote-clause-cut : goal.returns-then-is_quote-clause-cut
returns-then-is_quote-clause-cut c =
    let text = c.args.text.now in
    let start = c.args.start in
    let letter = test-at c.as_bytes.result.now text start c.as_bytes.ensures.value is_letter false c.if-is_letter.ensures in
    let digit = test-at c.as_bytes.result.now text start c.as_bytes.ensures.value is_digit false c.if-is_digit.ensures in
    let quote = test-at c.as_bytes.result.now text start c.as_bytes.ensures.value is_quote true c.if-is_quote.ensures in
    front-quote (get_or text start 0) (drop (start + 1) text) start letter digit quote ∙ c.quoted.ensures.cut

pub returns-clause-cut : goal.returns-clause-cut
returns-clause-cut c =
    let text = c.args.text.now in
    let start = c.args.start in
    let letter = test-at c.as_bytes.result.now text start c.as_bytes.ensures.value is_letter false c.if-is_letter.ensures in
    let digit = test-at c.as_bytes.result.now text start c.as_bytes.ensures.value is_digit false c.if-is_digit.ensures in
    let quote = test-at c.as_bytes.result.now text start c.as_bytes.ensures.value is_quote false c.if-is_quote.ensures in
    front-symbol (get_or text start 0) (drop (start + 1) text) start letter digit quote ∙ symbol-at c.as_bytes.result.now text start c.as_bytes.ensures.value _ c.symbol.ensures.cut
