mod Checking
mod Draining
mod Fresh
mod CheckPrinting
mod Sizes
mod Printing
mod Running
mod RunOutputs
pub mod TapeGiven
mod WorkerTasks
