pub mod SharedPlaces
