-- What proofs of other crates cite of this one: they take it from here alone.
pub use Rattle.ob_server.proofs.Counts.{Rose-earlier, Rose-later}
pub use Rattle.ob_server.proofs.Reasons.{reason_weaker}
pub use Rattle.ob_server.proofs.ServedOn.{reply_lines-append}
pub use Rattle.ob_server.proofs.WrittenParts.{at_any_error, front_after, front_of_more, nothing_written, whole_after}
