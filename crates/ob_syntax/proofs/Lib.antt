pub mod Depths
pub mod Faults
pub mod Frames
pub mod Parsed
pub mod Spelling
pub mod Tokens
pub mod CallerLemmas
