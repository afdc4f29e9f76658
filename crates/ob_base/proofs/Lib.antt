pub mod BrokenOrderLaws
pub mod Dotted
pub mod OrderLaws
pub mod Risen
pub mod TallyLaws
pub mod Walks
pub mod Rows
pub mod CallerLemmas
