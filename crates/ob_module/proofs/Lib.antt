pub mod CallerLemmas
pub mod Documents
pub mod Entries
pub mod Numbered
pub mod Wrongs
