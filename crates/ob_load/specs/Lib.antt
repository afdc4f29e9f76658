-- What contracts of public functions cite.
pub mod Texts
pub mod Reading
pub mod Dependencies
pub mod Access
pub mod AccessFaults
pub mod Preset
pub mod RowFaults
pub mod Loading
pub mod FaultText
-- Private: the words by which the rooms of the crate are joined.
pub mod Rooms
