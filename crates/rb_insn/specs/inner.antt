pub mod InsnGroups
pub mod Operands
