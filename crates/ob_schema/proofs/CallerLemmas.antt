-- What proofs of other crates cite of this one: they take it from here alone.
pub use Rattle.ob_schema.proofs.Anys.{Any-answered, Any-cases, Any-first, Any-is, Any-later, Any-none, Any-tested}
pub use Rattle.ob_schema.proofs.ComputedEnds.{DependsAtEnd, IsComputedStep, depends-ends, end-contained}
pub use Rattle.ob_schema.proofs.LookUps.{contains-cases, contains-filter, contains-first, contains-later, contains-map, contains-mapped, contains-none, found-among, found-placed, named-among, named-is, named-one}
pub use Rattle.ob_schema.proofs.ModelNames.{IfSome-found}
pub use Rattle.ob_schema.proofs.NameSearch.{has_name, order, position-map, searched}
pub use Rattle.ob_schema.proofs.OneWrong.{Tells-none, Tells-one, Tells-same, known_at, known_both, known_by, known_on, some_none, some_same, value_of}
