pub mod Admission
pub mod Lateness
