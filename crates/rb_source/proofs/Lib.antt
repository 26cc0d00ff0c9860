pub mod Side
pub mod Windows
pub mod Steps
pub mod Unique
