pub mod SeatPasses
pub mod LentState
pub mod SeatsKeep
pub mod HandPasses
pub mod HandCalls
pub mod ChapterAnswers
