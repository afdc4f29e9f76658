pub mod Chains
pub mod Scans
