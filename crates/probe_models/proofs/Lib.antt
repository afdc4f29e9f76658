pub mod Ties
pub mod Ready
