pub mod Dealt
pub mod Queues
pub mod Streams
pub mod inner
