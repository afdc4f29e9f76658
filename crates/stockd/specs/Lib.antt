pub mod Setup
pub mod Outside
pub mod Telling
pub mod Store
pub mod Audit
pub mod Program
