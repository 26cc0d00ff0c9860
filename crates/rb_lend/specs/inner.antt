pub mod Sheet
pub mod Short
