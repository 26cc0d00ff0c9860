pub mod KeptPlaces
mod KnownPlaces
mod PlaceValues
mod Stores
mod Numbers
mod Ascending
pub mod Order
mod Registers
mod CheckOrder
mod KeptOrder
mod StateOrder
pub mod StepOrder
pub mod Forms
pub mod Laws
mod Least
mod Noting
mod Turning
mod Passing
pub mod Counting
mod Choosing
