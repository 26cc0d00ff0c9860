use Rattle.std.proofs.Common.{◌≡◌, ◌++◌, length, vec_capacity}
use Rattle.rb_history.specs.ManyTakes.{pushed}
use Rattle.rb_chapter_ring.specs.ChapterCalls.{IsSameChapter}
use Rattle.rb_chapter_ring.specs.ManyTakes.{TakesEachInChapter}
use Rattle.rb_chapter_ring.proofs.ring.RingState.take_many.Given as goal

-- the records that are counted were taken, and are in the list after its earlier elements
abbrev pub invariant-loop-count : goal.invariant-loop-count
invariant-loop-count l = record {
  same_tag : l.self.tag ≡ l.fn.self.tag;
  same_chapter : IsSameChapter l.fn.self.state.ring l.self.state.ring;
  each : TakesEachInChapter l.fn.self.state.ring (pushed l.fn.out.items l.out.items) l.self.state.ring;
  same_hands : l.self.state.hands ≡ l.fn.self.state.hands;
  kept : l.out.items ≡ l.fn.out.items ++ pushed l.fn.out.items l.out.items;
  count_is : l.count ≡ length (pushed l.fn.out.items l.out.items);
  capacity : vec_capacity l.out ≡ vec_capacity l.fn.out;
}
