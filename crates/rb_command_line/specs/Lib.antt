pub mod Commands
pub mod CostSizes
pub mod inner
