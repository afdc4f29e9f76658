-- What contracts of public functions cite.
pub mod Finds
pub mod Paths
pub mod Formulas
pub mod Chains
pub mod Strata
pub mod Fields
pub mod Built
pub mod Models
pub mod Facts
-- Tables of rows, over which cells have values: what the crates above keep and evaluate.
pub mod Tables
pub mod Plain
pub mod Limited
pub mod Val
pub mod Tied
pub mod Checks
pub mod Broken
pub mod Links
pub mod ReadCells
-- Rows that modules bring.
pub mod Presets
-- Private: the words by which the rooms of the crate are joined.
pub mod NameIndex
