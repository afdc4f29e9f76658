-- What proofs of other crates cite of this one: they take it from here alone.
pub use Rattle.ob_module.proofs.Documents.{listed-view, map-whole}
pub use Rattle.ob_module.proofs.Numbered.{Contains-at, element-at, has-at, has-from, has-more, has-pushed, number-of, numbered-has, numbered-number, numbered-push, numbered-same}
