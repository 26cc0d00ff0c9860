pub mod Results
pub mod Tasks
pub mod Turns
pub mod ContextRuns
pub mod inner
