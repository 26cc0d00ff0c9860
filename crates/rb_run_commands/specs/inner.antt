pub mod JobContexts
pub mod OpeningFaults
