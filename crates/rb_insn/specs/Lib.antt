pub mod WholeNumbers
pub mod ArithmeticAndJumps
pub mod Opcodes
pub mod Sizes
pub mod Spelling
pub mod Units
pub mod inner
