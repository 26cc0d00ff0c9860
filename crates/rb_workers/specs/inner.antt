pub mod ConsumerTasks
pub mod GatheredAnswers
pub mod ReportAnswers
pub mod RingEnds
pub mod RunBuffers
pub mod StoredAnswers
pub mod WorkerRuns
