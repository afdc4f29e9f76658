pub mod Arguments
pub mod Values
pub mod Words
pub mod Views
