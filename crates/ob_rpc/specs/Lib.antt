pub mod Envelope
pub mod Reply
pub mod Seen
