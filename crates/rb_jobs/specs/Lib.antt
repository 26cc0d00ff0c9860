pub mod SeatCalls
pub mod SeatHelpers
pub mod SeatLaws
pub mod KeptRecords
pub mod Jobs
pub mod inner
