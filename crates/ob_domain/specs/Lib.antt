-- What contracts of public functions cite.
pub mod Trees
pub mod Operators
pub mod Places
pub mod Aims
pub mod Operands
pub mod Patterns
pub mod Criteria
pub mod Reading
pub mod Stands
pub mod Over
pub mod Passing
pub mod Holding
pub mod Naming
