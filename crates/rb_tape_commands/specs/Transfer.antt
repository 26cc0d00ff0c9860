-- A payload that passes through a ring in which every record was taken: it is output and taken immediately.
use Rattle.std.specs.Prelude.{ℕ, ◌≡◌, ◌+◌, ◌<◌, ◌≤◌, ◌^◌}
use Rattle.rb_history.specs.Span.{span}
use Rattle.rb_chapter_ring.specs.ChapterRing.{ChapterRing}
use Rattle.rb_chapter_ring.specs.ChapterCalls.{AllTakenByChapter, IsSameChapter, producer_by_chapter}
use Rattle.rb_tape_commands.specs.declared.feed_fault.FeedFault.{FeedFault}
use Rattle.rb_tape_commands.specs.declared.feed_fault.FeedFault.TheVariants.{Size, Start, Fit, Ends, Memory, Device}

-- the ring keeps its chapter, has again only records that were taken, and has advanced by a record of n bytes
pub record MovesOn (old new : ChapterRing) (n : ℕ) : Type 0 where
  pub same_chapter : IsSameChapter old new
  pub all_taken : AllTakenByChapter new
  pub producer_is : producer_by_chapter new ≡ producer_by_chapter old + span n
  pub bounded : producer_by_chapter old + span n ≤ 2 ^ 62

-- the ring refuses the payload with this number, of n bytes, at this position: it would end past 2^62
abbrev pub IsRefusal : ℕ → ℕ → ℕ → FeedFault → Type 0
IsRefusal position number n (Fit k) = (k ≡ number) × (2 ^ 62 < position + span n)
IsRefusal position number n Memory = ⊥
IsRefusal position number n Size = ⊥
IsRefusal position number n Start = ⊥
IsRefusal position number n (Ends k) = ⊥
IsRefusal position number n Device = ⊥
