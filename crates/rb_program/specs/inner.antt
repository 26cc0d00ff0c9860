pub mod Reach
pub mod Decoded
pub mod FieldChecks
pub mod Operations
pub mod SecondUnit
pub mod TextFaults
pub mod WideUnits
