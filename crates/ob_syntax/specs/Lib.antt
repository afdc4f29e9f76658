pub mod Signs
pub mod Lexemes
pub mod Ahead
pub mod Grammar
pub mod Parsing
pub mod Waits
