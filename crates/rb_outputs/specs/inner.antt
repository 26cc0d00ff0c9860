pub mod LineWriting
