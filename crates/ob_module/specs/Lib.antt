-- What contracts of public functions cite.
pub mod Forms
pub mod Keys
pub mod Meaning
pub mod Texts
pub mod Modules
-- The words by which the rooms of the crate are joined.
pub mod Rooms
