pub mod LastEvents
pub mod KeeperTurns
