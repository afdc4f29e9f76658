pub mod Takes
pub mod Spots
pub mod Moves
pub mod Sums
pub mod Indexed
