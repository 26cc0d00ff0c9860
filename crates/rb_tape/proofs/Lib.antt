mod HeaderBegins
mod TapeFronts
pub mod ItemsRead
mod RecordsCounted
mod ItemsPut
mod Pieces
mod TapeCalls
