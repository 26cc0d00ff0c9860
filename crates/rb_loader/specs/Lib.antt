pub mod Acceptance
pub mod CostCommand
pub mod Explained
pub mod MachineFaults
pub mod RequestedFindings
pub mod StandIn
pub mod inner
