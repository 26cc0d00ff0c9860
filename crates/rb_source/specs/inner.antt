pub mod Side
pub mod Counted
pub mod Look
pub mod Steps
