pub mod Asking
pub mod Steps
