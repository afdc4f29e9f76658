-- What contracts of public functions cite.
pub mod Affected
pub mod CellSets
pub mod Faults
-- Private: the words by which the rooms of the crate are joined.
pub mod Asking
pub mod Readers
pub mod Marks
