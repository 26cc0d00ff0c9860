mod Batches
mod BetweenLooks
mod TapeItems
