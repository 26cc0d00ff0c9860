mod Ids
mod Records
mod Held
mod Values
mod Places
mod Changes
pub mod Checks
pub mod Keeping
mod Rows
mod Moves
mod Sums
pub mod Accesses
mod Stores
mod MemoryLaws
mod Branches
mod Calling
pub mod Sound
mod Running
mod Worked
mod PlainPrograms
mod PlainRuns
pub mod Laws
