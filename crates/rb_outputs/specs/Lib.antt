pub mod Lines
pub mod Outputs
pub mod inner
