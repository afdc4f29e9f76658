-- What contracts of public functions cite.
pub mod Faults
-- Private: the words by which the rooms of the crate are joined.
pub mod Telling
pub mod Graphs
pub mod Building
pub mod Resolving
pub mod ModelFields
pub mod Modelling
pub mod RegistryOf
