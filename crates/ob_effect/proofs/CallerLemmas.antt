-- What proofs of other crates cite of this one: they take it from here alone.
pub use Rattle.ob_effect.proofs.CallSteps.{edits_none, fails, Goes, goes_stepped, keeps_none, starved, starves, stopped}
pub use Rattle.ob_effect.proofs.CommandDepths.{command-next, held-next}
pub use Rattle.ob_effect.proofs.Questions.{asks_edits, asks_keeps, asks_none, asks_then, edits_then, keeps_then, noted_on, refused_later, rose_later, spoiled_keeps}
