use Rattle.std.proofs.Common.{◌≡◌, ◌+◌, [], refl, ap, sym, ◌∙◌, drop, drop_of_length-le, arith}
use Rattle.std.specs.List.{prefix_len}
use Rattle.ob_syntax.specs.Lexemes.{is_separator, lexemes_from}
use Rattle.ob_syntax.proofs.Tokens.{take-rest, lexemes_from-blanks_at, lexemes_from-at, is_separator-behind}
use Rattle.ob_syntax.proofs.lexeme.Lexer.next.Goals as goal

pub returns-then-start-text-clause-token : goal.returns-then-start-text-clause-token
returns-then-start-text-clause-token c =
    let text = c.self.inside.text.now in
    let len : c.blank_len.result ≡ prefix_len is_separator (drop c.self.inside.at text) = rw (c.as_bytes.ensures.value, take-rest text c.self.inside.at) at c.blank_len.ensures.len in
    let blanks = lexemes_from-blanks_at text c.self.inside.at c.blank_len.result len in
    let none : drop (c.self.inside.at + c.blank_len.result) text ≡ [] = drop_of_length-le text (omega arith) in
    let done : lexemes_from 0 (c.self.inside.at + c.blank_len.result) (drop (c.self.inside.at + c.blank_len.result) text) ≡ [] = rw none refl in
    ap (λ l. l.tokens) (sym c.self.view_is) ∙ blanks ∙ done

pub returns-clause-token : goal.returns-clause-token
returns-clause-token c =
    let text = c.self.inside.text.now in
    let start = c.self.inside.at + c.blank_len.result in
    let len : c.blank_len.result ≡ prefix_len is_separator (drop c.self.inside.at text) = rw (c.as_bytes.ensures.value, take-rest text c.self.inside.at) at c.blank_len.ensures.len in
    let blanks = lexemes_from-blanks_at text c.self.inside.at c.blank_len.result len in
    let no_blank = is_separator-behind text c.self.inside.at c.blank_len.result len (omega arith) in
    ap (λ l. l.tokens) (sym c.self.view_is) ∙ blanks ∙ lexemes_from-at text start _ (omega arith) no_blank c.token_at-len.ensures.cut c.token_at-len.ensures.some
