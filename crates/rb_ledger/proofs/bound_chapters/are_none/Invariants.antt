use Rattle.std.proofs.Common.{◌≡◌, ◌↔◌, drop, replicate, length}
use Rattle.rb_chapter_ring.specs.Snapshot.{no_tally}
use Rattle.rb_ledger.proofs.bound_chapters.are_none.Given as goal

abbrev pub invariant-loop-tally : goal.invariant-loop-tally
invariant-loop-tally l = (l.tallies ≡ replicate (length l.tallies) no_tally) ↔ (drop l.tally-index l.tallies ≡ replicate (length (drop l.tally-index l.tallies)) no_tally)
