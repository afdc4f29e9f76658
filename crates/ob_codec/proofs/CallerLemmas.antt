-- What proofs of other crates cite of this one: they take it from here alone.
pub use Rattle.ob_codec.proofs.HeldLaws.{HasType-from_IsValueOf}
pub use Rattle.ob_codec.proofs.RowLaws.{one_row_lem}
