pub mod Block
pub mod RangeLaws
pub mod Ranges
pub mod Rewritten
pub mod inner
