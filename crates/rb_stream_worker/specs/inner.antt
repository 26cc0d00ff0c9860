pub mod Looks
pub mod RanTasks
pub mod RunLaws
