pub mod CallCosts
pub mod JobRequests
pub mod JobCosts
pub mod RunCosts
pub mod WorldCosts
