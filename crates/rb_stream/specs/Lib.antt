pub mod Refusals
pub mod Returned
pub mod Streamed
pub mod inner
