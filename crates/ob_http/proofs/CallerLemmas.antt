-- What proofs of other crates cite of this one: they take it from here alone.
pub use Rattle.ob_http.proofs.OneItem.{item_of_its_bytes, message_takes_bytes}
pub use Rattle.ob_http.proofs.WrittenParts.{front_after, wrote_both, wrote_nothing}
