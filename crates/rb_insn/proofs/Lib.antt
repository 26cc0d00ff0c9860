pub mod ArithmeticLaws
mod Signed
pub mod Registers
pub mod Units
pub mod Reading
pub mod Rows
pub mod Laws
