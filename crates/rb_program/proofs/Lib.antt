mod Faultless
pub mod ShapeLaws
mod Searching
pub mod Laws
pub mod Kept
pub mod Opcodes
pub mod Named
pub mod FirstKinds
pub mod Building
pub mod Bytes
pub mod Spelled
pub mod Front
pub mod FirstFaults
pub mod Texts
