pub mod FewParents
pub mod TakenIds
pub mod BegunRows
pub mod ChangedRows
pub mod Stagings
