mod LockedSteps
mod ChapterPassing
pub mod WholeAnswers
mod RoomCalls
mod WorkerPassing
mod HandPassing
mod SeatPassing
mod TakerPassing
mod ConsumerPassing
mod AnswersMeet
mod SeatNumbers
mod TakenNumbers
mod OpenedSeats
mod GatheredSeats
mod WholeLaws
mod KeptReservations
