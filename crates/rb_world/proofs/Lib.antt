pub mod Tables
pub mod RecordSizes
mod BusyRecords
mod TakenInOrder
mod RingSteps
mod KeptWorlds
mod TurnsOfWorkers
mod ActorTurns
pub mod WholeRuns
mod RingTurns
pub mod RingRuns
pub mod TakenTapes
pub mod AllTaken
mod WholeCalls
mod WholeLists
mod ShownWorlds
mod HeldByWorkers
mod MachineAnswers
mod WorkerTurns
mod SoundWorlds
pub mod ListSteps
mod WholeTurns
mod KeptChapters
mod HeldInHands
mod Reasons
mod Refusals
pub mod Openings
pub mod Runs
