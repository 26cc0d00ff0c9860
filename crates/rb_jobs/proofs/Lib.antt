pub mod Beginnings
pub mod ChapterTries
pub mod Ends
pub mod KeptRecords
pub mod Leading
pub mod Lists
pub mod Noting
pub mod OneSeat
pub mod RingCalls
pub mod Totals
pub mod Returned
mod Doing
