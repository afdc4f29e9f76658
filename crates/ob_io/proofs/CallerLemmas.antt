-- What proofs of other crates cite of this one: they take it from here alone.
pub use Rattle.ob_io.proofs.RisingIds.{below-next, id_cmp, rising-from_sorted, sorted-from_rising, sorted-unmap}
pub use Rattle.ob_io.proofs.Shown.{exact_links, exact_rows, links_total, rows_total}
pub use Rattle.ob_io.proofs.SortedEntries.{is_sorted-from_keys, keys-from_is_sorted}
