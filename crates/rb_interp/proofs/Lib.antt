pub mod Laws
pub mod Counts
mod Slots
mod Tables
mod KeptEntries
mod Memories
mod Spilling
mod Nearness
mod Giving
mod Comparing
mod Feasible
mod Forms
mod RegisterLaws
mod Renumbering
pub mod Steady
mod StackSteps
mod PartSteps
mod HeldRecords
mod Reaching
mod RunSteps
mod Advancing
mod KeptRecords
mod Serving
