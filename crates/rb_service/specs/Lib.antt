pub mod Command
pub mod Counters
pub mod Faults
pub mod PrintedStream
pub mod Rings
pub mod Service
