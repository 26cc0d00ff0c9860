pub mod Plans
pub mod Faults
pub mod TurnSizes
pub mod NoneRefused
pub mod Failures
pub mod inner
