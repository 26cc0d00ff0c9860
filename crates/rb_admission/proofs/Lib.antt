pub mod Admitted
pub mod OnTime
mod Worked
