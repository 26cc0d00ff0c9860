use Rattle.std.proofs.Common.{◌≡◌, take}
use Rattle.std.specs.Prelude.{map}
use Rattle.rb_segments.specs.declared.stored_segment.StoredSegment.{StoredSegment}
use Rattle.rb_segments.proofs.restart.positions.Given as goal

abbrev pub invariant-loop-segment : goal.invariant-loop-segment
invariant-loop-segment l = l.positions.items ≡ map (λ (s : StoredSegment). s.position) (take l.segment-index l.list)
