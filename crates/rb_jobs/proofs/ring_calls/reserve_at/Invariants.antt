use Rattle.std.proofs.Common.{◌≡◌, ◌<◌}
use Rattle.rb_chapter_ring.specs.Hands.{AreAllOut}
use Rattle.rb_jobs.proofs.ChapterTries.{FullSoFar}
use Rattle.rb_jobs.proofs.ring_calls.reserve_at.Given as goal

-- the chapter was full at each call so far, the sheet is unchanged, and after a call the hands are not all out
abbrev pub invariant-loop-calls : goal.invariant-loop-calls
invariant-loop-calls g l = FullSoFar l.fn.n l.calls l.fn.seat l.seat × (l.sheet ≡ l.fn.sheet) × (0 < l.calls → ¬ AreAllOut l.fn.seat.hands)
