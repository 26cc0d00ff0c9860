pub mod SharedCalls
pub mod AnswersOverAll
pub mod KeptReservations
pub mod SharedSeats
pub mod BoundSeats
pub mod inner
