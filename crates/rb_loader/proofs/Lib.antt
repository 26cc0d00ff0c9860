mod DigitLists
mod DigitTests
mod Explaining
mod HexTexts
mod KeptDigits
mod Refusing
pub mod StandIns
