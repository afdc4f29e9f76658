-- What contracts of public functions cite.
pub mod GroupPeriods
pub mod GroupAmounts
pub mod GroupForms
pub mod Groups
pub mod NamedGroups
-- Private: the words by which the rooms of the crate are joined.
pub mod GroupParts
pub mod GroupValues
