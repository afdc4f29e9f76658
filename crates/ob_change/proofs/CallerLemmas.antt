-- What proofs of other crates cite of this one: they take it from here alone.
pub use Rattle.ob_change.proofs.BrokenFields.{broken-field}
