pub mod OwnSeats
