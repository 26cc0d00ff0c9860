pub mod BlockMemory
pub mod Fronts
pub mod RangeLaws
