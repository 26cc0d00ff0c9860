mod Answering
mod Buffering
mod ChapterPass
mod Digits
mod Feeding
mod Gathering
mod Inputs
mod PayloadReads
mod RingPass
mod Sending
pub mod TapeReads
mod TapeCallRuns
