pub mod Batches
pub mod BetweenLooks
pub mod Keepers
pub mod Turns
pub mod inner
