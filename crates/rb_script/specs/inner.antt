pub mod ScriptRead
pub mod ShownTurns
