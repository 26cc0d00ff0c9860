pub mod Segments
pub mod Known
pub mod SegmentTape
pub mod Restart
pub mod MemorySegments
pub mod inner
