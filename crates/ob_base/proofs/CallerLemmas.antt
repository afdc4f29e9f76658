-- What proofs of other crates cite of this one: they take it from here alone.
pub use Rattle.ob_base.proofs.BrokenOrderLaws.{cell_order_total}
pub use Rattle.ob_base.proofs.OrderLaws.{value_order_exact, value_order_total}
pub use Rattle.ob_base.proofs.Rows.{arguments_of-items}
