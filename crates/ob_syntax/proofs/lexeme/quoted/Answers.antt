use Rattle.std.proofs.Common.{get_or}
use Rattle.std.proofs.lemmas.Str.{IsCharBoundary-after_ascii}
use Rattle.ob_syntax.proofs.Tokens.{quote_is_ascii}
use Rattle.ob_syntax.proofs.lexeme.quoted.Goals as goal

pub range-requires-clause-start_boundary : goal.range-requires-clause-start_boundary
range-requires-clause-start_boundary c = λ _.
    IsCharBoundary-after_ascii c.args.text.now c.args.start c.utf8.text c.requires.inside (quote_is_ascii (get_or c.args.text.now c.args.start 0) c.requires.quote)
