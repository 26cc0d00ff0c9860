pub mod GrantCounts
pub mod RecordRows
pub mod TallySteps
