pub mod Joining
mod Pieces
mod PlainTexts
