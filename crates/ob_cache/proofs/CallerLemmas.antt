-- What proofs of other crates cite of this one: they take it from here alone.
pub use Rattle.ob_cache.proofs.Asking.{IsAsked-found}
pub use Rattle.ob_cache.proofs.IdFields.{id-found, id-there}
pub use Rattle.ob_cache.proofs.Questions.{stays-then}
pub use Rattle.ob_cache.proofs.Refusing.{Refuses-weaker, asked-anyhow, called-anyhow}
