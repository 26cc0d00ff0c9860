mod Reading
mod Room
mod Sending
