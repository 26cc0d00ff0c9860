pub mod Returned
pub mod TaskRuns
pub mod Lists
pub mod OfAll
pub mod Counted
pub mod Streams
pub mod Swapped
pub mod Settled
