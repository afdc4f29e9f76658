-- What proofs of other crates cite of this one: they take it from here alone.
pub use Rattle.ob_orm.proofs.GivenFields.{holds-typed}
pub use Rattle.ob_orm.proofs.LinkedRows.{parent-empty, parent-none, parent-set}
pub use Rattle.ob_orm.proofs.NewRows.{so_far-more, with_parents-more}
pub use Rattle.ob_orm.proofs.NextIds.{model-within}
pub use Rattle.ob_orm.proofs.PastLimits.{made-there}
pub use Rattle.ob_orm.proofs.WriteEdits.{flat-more, row_fit, sets-below}
