use Rattle.std.proofs.Common.{◌≡◌, length}
use Rattle.rb_jobs.proofs.ChapterTries.{FullSoFar}
use Rattle.rb_jobs.proofs.ring_calls.output_at.Given as goal

-- the chapter was full at each call so far, and the sheet is as it was
abbrev pub invariant-loop-calls : goal.invariant-loop-calls
invariant-loop-calls g l = FullSoFar (length l.fn.sheet) l.calls l.fn.seat l.seat × (l.sheet ≡ l.fn.sheet)
