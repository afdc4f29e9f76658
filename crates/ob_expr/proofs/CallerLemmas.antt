-- What proofs of other crates cite of this one: they take it from here alone.
pub use Rattle.ob_expr.proofs.Accepted.{typed_ok}
pub use Rattle.ob_expr.proofs.Along.{same_meaning}
pub use Rattle.ob_expr.proofs.Outcomes.{then_ok, valued}
pub use Rattle.ob_expr.proofs.Picked.{AllHave, chosen-has, each-has, extreme-has, is_same, set-have}
pub use Rattle.ob_expr.proofs.TypedRows.{trees_of, typed_tree_of-Joined}
