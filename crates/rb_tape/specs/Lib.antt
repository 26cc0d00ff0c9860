pub mod TapeFront
pub mod TapeReading
pub mod LongestTape
pub mod Items
pub mod TapeCalls
pub mod TapeOutput
pub mod inner
