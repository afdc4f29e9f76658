-- What contracts of public functions cite.
pub mod Kept
pub mod Opening
pub mod Stages
pub mod Standing
pub mod Evaluating
pub mod Telling
pub mod Calls
pub mod Refusals
-- How stages are stored.
pub mod Coding
-- Private: the words by which the rooms of the crate are joined.
pub mod Native
pub mod Rooms
pub mod Behind
pub mod Failing
pub mod Changing
pub mod Reading
