pub mod Edits
pub mod Nodes
pub mod Orders
pub mod Parts
pub mod Ranges
pub mod Sides
pub mod Updated
