-- What proofs of other crates cite of this one: they take it from here alone.
pub use Rattle.ob_rows.proofs.CalledFound.{IsCalled-found}
pub use Rattle.ob_rows.proofs.Contained.{all_among, any_is, any_more, any_one, both_ways, contains-filter, contains-kept, contains-map, contains-mapped, contains-more, contrary, denied, either_way, fails}
pub use Rattle.ob_rows.proofs.EditedRows.{after-then, row-apart, row-itself, row-of-kept, same_row, set-next, set-other, set-own, set-there}
pub use Rattle.ob_rows.proofs.FirstArguments.{pair_are, second_fit, sole_are, sole_fits}
pub use Rattle.ob_rows.proofs.FoundFirst.{found-here, found-later, kept-more, passed-over}
pub use Rattle.ob_rows.proofs.MissingRows.{fault_refuses, rests-tells, stays-rests, told-later, told-sooner}
pub use Rattle.ob_rows.proofs.OwnFields.{settable_by_name, tested_by_name}
pub use Rattle.ob_rows.proofs.Passed.{author_passed, everywhere, known_of, moment_passed, nowhere, rose_from, sound_in, unasked-cause, view-Bool}
pub use Rattle.ob_rows.proofs.PlacedFields.{All-at, field_there, step_in, tell, told}
pub use Rattle.ob_rows.proofs.Questions.{err-later, err-map, nothing_later, refused_later, rests-sound, stays-at_rest, stays-itself, stays-none, whatever}
pub use Rattle.ob_rows.proofs.RowSets.{has-one, no_row, row-among, row-one}
pub use Rattle.ob_rows.proofs.SettledValues.{settled-kept, settled-plain, settled-there}
pub use Rattle.ob_rows.proofs.Stamps.{makeable_at, stamp_typed}
pub use Rattle.ob_rows.proofs.WithinIds.{id-within}
