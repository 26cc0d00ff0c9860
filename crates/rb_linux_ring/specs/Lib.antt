pub mod LinuxHeaders
pub mod LinuxWindows
