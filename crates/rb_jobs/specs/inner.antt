pub mod CallAnswers
pub mod Chains
pub mod WrittenRecords
pub mod RecordEnds
