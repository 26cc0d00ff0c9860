pub mod TracedCalls
pub mod Leaving
pub mod Asking
pub mod Refusals
mod Cutting
mod Sums
mod WorkersCome
mod BusyBounds
mod WorkersWithin
