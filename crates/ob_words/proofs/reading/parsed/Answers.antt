-- What the parser answers is what its definition of a parse says of the words.
use Rattle.std.proofs.Common.{◌≡◌, ap, sym, ◌∙◌, true, true≢false}
use Rattle.clap.specs.declared.error.kind.ErrorKind.{ErrorKind}
use Rattle.clap.specs.declared.error.kind.ErrorKind.TheVariants as kind
use Rattle.clap.specs.contracts.error.kind.ErrorKind.{the_type}
use denote.Enum.Bare.{sameb}
use Rattle.ob_words.proofs.Rows.{refused, said_end, taken}
use Rattle.ob_words.proofs.reading.parsed.Goals as goal

pub returns-then-has_word : goal.returns-then-has_word
returns-then-has_word c = said_end _ (sym c.has_word.ensures ∙ c.if-has_word.true)

pub returns-in-Ok : goal.returns-in-Ok
returns-in-Ok c = taken _ _ c.in-Ok.matches c.in_ok-stockd.ensures (sym c.has_word.ensures ∙ c.if-has_word.false) c.in-Ok.ensures.kinds c.in-Ok.ensures.matches

pub returns : goal.returns
returns c =
    refused _ _ c.in-Err.error c.in_ok-stockd.ensures (sym c.has_word.ensures ∙ c.if-has_word.false) c.in-Err.ensures.kinds (λ is.
    let same : c.eq.result ≡ true = c.eq.ensures ∙ ap (λ (kind_is : ErrorKind). sameb the_type kind_is kind.OutOfMemory) (c.kind.ensures ∙ is) in
    true≢false (sym same ∙ c.if-eq.false))
