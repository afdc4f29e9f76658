-- What contracts of public functions cite.
pub mod Fitting
pub mod After
pub mod Changes
pub mod Faults
pub mod Scratch
pub mod Applying
pub mod Agreeing
pub mod Paging
-- How tables are stored.
pub mod Coding
-- Private: the words by which the rooms of the crate are joined.
pub mod Rooms
pub mod Settling
pub mod Holdings
pub mod Digests
pub mod Finding
pub mod Trees
pub mod Sets
