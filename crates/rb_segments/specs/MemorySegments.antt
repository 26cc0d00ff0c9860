-- The segment that a value in memory represents (own).
use Rattle.rb_segments.specs.Segments.{Segment}
use Rattle.rb_segments.specs.declared.memory_store.MemorySegment.{MemorySegment}

abbrev pub memory_segment : MemorySegment → Segment
memory_segment m = record { position = m.position; bytes = m.bytes.items }
