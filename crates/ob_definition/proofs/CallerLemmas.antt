-- What proofs of other crates cite of this one: they take it from here alone.
pub use Rattle.ob_definition.proofs.Adding.{Adds-both, Adds-none, Adds-same}
pub use Rattle.ob_definition.proofs.Copies.{map_map, next_front, position-push, value_more, view_more, zip_length, zip_more, zip_push}
pub use Rattle.ob_definition.proofs.ListTests.{list_any-map}
pub use Rattle.ob_definition.proofs.Ranks.{is_less}
pub use Rattle.ob_definition.proofs.Rooms.{Adds-when, IsTold}
pub use Rattle.ob_definition.proofs.Tellings.{Adds-more, Adds-tells, Any-before, Any-last}
