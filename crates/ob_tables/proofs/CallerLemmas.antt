-- What proofs of other crates cite of this one: they take it from here alone.
pub use Rattle.ob_tables.proofs.Along.{plain_is}
pub use Rattle.ob_tables.proofs.Columns.{find-columns, get-row_of, keeps, kept_as, row-has}
pub use Rattle.ob_tables.proofs.GivenValues.{keeps-fields, same_test}
pub use Rattle.ob_tables.proofs.KnownFields.{Any-at_all, Field-at, is_there, known_at, known_if, some_or_none, tell_and, there_is, told_and}
pub use Rattle.ob_tables.proofs.Listing.{at-item, naming-rises}
pub use Rattle.ob_tables.proofs.NamedBack.{Stands, entry_found, naming-there, rows_in-there}
pub use Rattle.ob_tables.proofs.OneRow.{row-made}
pub use Rattle.ob_tables.proofs.Places.{place-below}
pub use Rattle.ob_tables.proofs.Rising.{id_cmp, ids-rise}
pub use Rattle.ob_tables.proofs.RowIds.{HasAt, at-names, ids-there, names-at, there-ids}
pub use Rattle.ob_tables.proofs.Settled.{Behind, Behind-at}
pub use Rattle.ob_tables.proofs.Settling.{behind-set, behind-there, behind-unset, link-there}
pub use Rattle.ob_tables.proofs.Shown.{exact_rows, rows_total}
pub use Rattle.ob_tables.proofs.Sources.{plain-there}
pub use Rattle.ob_tables.proofs.Stable.{held_by, value_absent, value_there, value_unknown}
pub use Rattle.ob_tables.proofs.Valued.{sound-tied}
pub use Rattle.ob_tables.proofs.Within.{AreSound, not_there, values_are}
