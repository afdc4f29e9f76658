use Rattle.std.proofs.Common.{get_or, sym}
use Rattle.std.proofs.lemmas.Str.Parse.{parse_signed_digits}
use Rattle.ob_syntax.proofs.Tokens.{digits_model, digit_in_range, number_lexeme-past}
use Rattle.ob_syntax.proofs.lexeme.number.Goals as goal
use mir.Syntax.{w64}

pub returns-in-Err : goal.returns-in-Err
returns-in-Err c =
    let run = c.args.run.now in
    let past = parse_signed_digits digits_model w64 run c.parse.result c.parse.ensures.value.0 (λ k below. digit_in_range (get_or run k 0) (c.requires.digits k 0 below)) in
    sym (number_lexeme-past run c.args.at (rw c.in-Err.is at past) c.requires.some)
