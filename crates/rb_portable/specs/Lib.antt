pub mod Portability
pub mod Findings
