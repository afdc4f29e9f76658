-- What contracts of public functions cite.
pub mod Types
pub mod Values
pub mod Names
pub mod Orders
pub mod Definitions
pub mod Keys
pub mod Gathered
pub mod Members
pub mod EntryFaults
pub mod Ranking
pub mod Findings
pub mod Making
-- Private: the words by which the rooms of the crate are joined.
pub mod Rooms
pub mod ByName
