-- What proofs of other crates cite of this one: they take it from here alone.
pub use Rattle.ob_call.proofs.ItsFields.{at_info}
pub use Rattle.ob_call.proofs.Viewed.{IfErr-result_view}
pub use Rattle.ob_call.proofs.NumberedFields.{named-range, numbered-before, slice_get-before}
pub use Rattle.ob_call.proofs.Items.{listed-items_view}
pub use Rattle.ob_call.proofs.LeastMissing.{IsThere, Least, asked-gap, asked-still, least-there, least_of, missing-first, missing-kept, missing-lesser}
pub use Rattle.ob_call.proofs.NamedIds.{IsLow, named-low}
pub use Rattle.ob_call.proofs.Plain.{both_plain, left_plain, put_plain, right_plain}
