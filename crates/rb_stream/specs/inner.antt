pub mod Counts
pub mod Lanes
pub mod Runs
