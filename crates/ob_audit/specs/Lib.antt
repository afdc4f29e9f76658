-- What contracts of public functions cite.
pub mod Rows
pub mod Sums
pub mod Report
-- Private: the words by which the rooms of the crate are joined.
pub mod Reading
pub mod Comparing
