-- What proofs of other crates cite of this one: they take it from here alone.
pub use Rattle.ob_syntax.proofs.Spelling.{parsed-whole}
pub use Rattle.ob_syntax.proofs.Tokens.{front-letter, lexemes_from-front}
