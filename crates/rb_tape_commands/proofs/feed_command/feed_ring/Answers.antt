use Rattle.std.proofs.Common.{refl, true, false, subst, true≢false}
use Rattle.std.specs.Io.KnownBytes.{Keeps}
use Rattle.rb_tape_commands.specs.Feed.{FeedBreaksOff, FeedResult}
use Rattle.rb_tape_commands.specs.inner.FeedRuns.{feed_run}
use Rattle.rb_tape_commands.proofs.Answering.{breaks, handed_on}
use Rattle.rb_tape_commands.proofs.TapeCallRuns.{ends_so}
use Rattle.rb_tape_commands.proofs.feed_command.feed_ring.Goals as goal

pub returns-in-Ok-clause-fed : goal.returns-in-Ok-clause-fed
returns-in-Ok-clause-fed g c =
    let kept = subst (λ w. Keeps (g.W.Write.contents w) (g.W.Write.contents c.write_out_with_retries.new.writer)) c.into_writer-writer.ensures.value c.write_out_with_retries.ensures.bytes in
    subst (λ t. FeedResult (feed_run c.args.size t.position (g.R.Incoming.remaining c.args.reader.now) (g.R.Incoming.remaining c.feed_all-fed.new.reader) (g.W.Write.contents t.writer) (g.W.Write.contents c.write_out_with_retries.new.writer)) c.feed_all-fed.result) c.new-tape.ensures.value
    (handed_on c.args.size c.new-tape.result.position _ _ _ _ _ kept c.feed_all-fed.result c.feed_all-fed.ensures.fed)

pub returns-clause-fed : goal.returns-clause-fed
returns-clause-fed g c =
    let kept = subst (λ w. Keeps (g.W.Write.contents w) (g.W.Write.contents c.write_out_with_retries.new.writer)) c.into_writer-writer.ensures.value c.write_out_with_retries.ensures.bytes in
    subst (λ t. FeedBreaksOff (feed_run c.args.size t.position (g.R.Incoming.remaining c.args.reader.now) (g.R.Incoming.remaining c.feed_all-fed.new.reader) (g.W.Write.contents t.writer) (g.W.Write.contents c.write_out_with_retries.new.writer))) c.new-tape.ensures.value
    (breaks c.args.size c.new-tape.result.position _ _ _ _ _ kept c.feed_all-fed.result c.feed_all-fed.ensures.no_bounds c.feed_all-fed.ensures.fed)

pub returns-in-Ok-clause-handed_out : goal.returns-in-Ok-clause-handed_out
returns-in-Ok-clause-handed_out g c =
    let fed = c.feed_all-fed in
    ends_so g.W.Write.contents g.W.Outgoing.writes_out c.args.writer c.args.size c.args.start c.args.retries c.new-tape.result fed.new.tape c.new-tape.ensures.value fed.result c.into_writer-writer.result
    c.write_out_with_retries.new.writer fed.new.retries true fed.ensures.calls fed.ensures.counted fed.ensures.unfinished fed.ensures.gave_up c.into_writer-writer.ensures.value c.in-Ok.ensures.tried (λ e. absurd (true≢false e))

pub returns-clause-handed_out : goal.returns-clause-handed_out
returns-clause-handed_out g c =
    let fed = c.feed_all-fed in
    ends_so g.W.Write.contents g.W.Outgoing.writes_out c.args.writer c.args.size c.args.start c.args.retries c.new-tape.result fed.new.tape c.new-tape.ensures.value _ c.into_writer-writer.result
    c.write_out_with_retries.new.writer fed.new.retries false fed.ensures.calls fed.ensures.counted fed.ensures.unfinished (λ e. refl) c.into_writer-writer.ensures.value c.in-Err.ensures.tried (λ e. refl)
