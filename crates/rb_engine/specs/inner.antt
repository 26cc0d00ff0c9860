pub mod Noting
pub mod Chains
