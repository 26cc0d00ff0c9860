use Rattle.std.proofs.Common.{◌≡◌, ◌+◌, ◌-◌, ◌*◌, ◌≤◌, ◌^◌, List, ℕ, [], length}
use Rattle.std.specs.Prelude.{None}
use Rattle.rb_history.specs.TapeBytes.{end_of}
use Rattle.rb_chapter_ring.specs.ChapterCalls.{AllTakenByChapter, producer_by_chapter}
use Rattle.rb_tape_commands.specs.ChapterTurns.{IsSpareOf}
use Rattle.rb_tape_commands.specs.Feed.{FeedsAll}
use Rattle.rb_tape_commands.specs.inner.FeedRuns.{feed_run}
use Rattle.rb_tape_commands.specs.Input.{payload_events}
use Rattle.rb_tape_commands.specs.Retries.{LeadsByCalls}
use Rattle.rb_tape_commands.proofs.feed_command.feed_all.Given as goal

-- the payloads so far were read, and their tape was written; the ring's records were all taken, so both positions are
-- equal; each payload switched chapters at most once
abbrev pub invariant-loop-payload : goal.invariant-loop-payload
invariant-loop-payload g l = record {
  size : l.tape.size ≡ l.size;
  finished : l.tape.unfinished ≡ None;
  calls : LeadsByCalls g.W.Write.contents l.fn.tape l.tape;
  counted : l.tape.failures + l.retries ≡ l.fn.tape.failures + l.fn.retries;
  setup : l.ring.state.ring.chapter.opening.setup ≡ record { size = l.size; start = l.fn.tape.position; workers = 1 };
  spare : IsSpareOf l.ring.state.ring l.spare_chapter;
  numbered : l.ring.state.ring.chapter.number ≤ l.number;
  all_taken : AllTakenByChapter l.ring.state.ring;
  position : l.tape.position ≡ producer_by_chapter l.ring.state.ring;
  low : l.fn.tape.position + 8 * l.number ≤ l.tape.position;
  high : l.tape.position ≤ 2 ^ 62;
  passed : (payloads : List (List ℕ)) × FeedsAll (feed_run l.size l.fn.tape.position (g.R.Incoming.remaining l.fn.reader) (g.R.Incoming.remaining l.reader) (g.W.Write.contents l.fn.tape.writer) (g.W.Write.contents l.tape.writer)) payloads [] × (l.number ≡ length payloads) × (l.tape.position ≡ end_of l.fn.tape.position (payload_events l.fn.tape.position payloads));
}

abbrev pub decreases-loop-payload : goal.decreases-loop-payload
decreases-loop-payload g l = 2 ^ 62 - l.tape.position
