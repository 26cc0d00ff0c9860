pub mod Directories
pub mod RecordsHeld
pub mod RecordsPut
pub mod Restarting
pub mod InMemory
pub mod Joined
