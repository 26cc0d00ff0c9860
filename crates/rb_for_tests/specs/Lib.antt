pub mod inner
pub mod OwnSeats
