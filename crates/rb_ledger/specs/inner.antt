pub mod BindingLoops
pub mod OpenedLock
pub mod SeatPasses
pub mod ChapterRooms
pub mod ChapterAnswers
