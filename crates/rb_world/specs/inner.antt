pub mod RingAnswers
pub mod RecordEnds
pub mod WorkerTurn
pub mod FittingWorlds
pub mod HeldInHands
pub mod KeptChapters
pub mod Refusals
