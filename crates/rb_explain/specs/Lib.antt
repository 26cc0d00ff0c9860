pub mod Assembly
pub mod AssemblyParts
pub mod inner
pub mod Joined
pub mod Lines
pub mod StateTexts
pub mod Objects
pub mod Explanations
