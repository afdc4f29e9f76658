-- What proofs of other crates cite of this one: they take it from here alone.
pub use Rattle.ob_query.proofs.Asked.{as_asked, asked_itself, asked_then, rests_on, rose_later, sound_at, tells_tables, told_back, told_on}
pub use Rattle.ob_query.proofs.Callers.{tells_tables_to, told_back as told_back_to, told_on as told_on_to}
pub use Rattle.ob_query.proofs.FoundRows.{begins_found, begins_walk}
pub use Rattle.ob_query.proofs.GrantedFields.{allowed_in, denied_by}
pub use Rattle.ob_query.proofs.GroupItems.{IsKeptTo, by_items, get-map, got-at, map-all-view, map-left, map-map, map-past, map-taken, map-taken-view, position-map}
pub use Rattle.ob_query.proofs.Isolation.{all_may, before_map, each_of_named, filter_alike, found_known, from_given, given_alike, held_alike, map_alike, may_alike, refused_alike}
pub use Rattle.ob_query.proofs.NamedBy.{domain_same, named_same}
pub use Rattle.ob_query.proofs.NamingSteps.{names-more, names-none}
pub use Rattle.ob_query.proofs.RankedRows.{same_term, window-map}
pub use Rattle.ob_query.proofs.ReadObjects.{value_plain}
pub use Rattle.ob_query.proofs.Refused.{asked_may}
pub use Rattle.ob_query.proofs.SearchAnswers.{denied_cause_at, denied_view_at, fails_cause, fails_in, from_view, stands_for, wanting_tells}
pub use Rattle.ob_query.proofs.SearchFields.{IsGivenTo, found_named, given-all, given-more, given-stop, of-entries}
pub use Rattle.ob_query.proofs.SearchFrom.{found_counted}
