use Rattle.rb_ledger.specs.inner.ChapterAnswers.{QueriesInChapter}
use Rattle.rb_shared_ring.specs.inner.HandCalls.{LeavesHands}
use Rattle.rb_shared_ring.proofs.HandPassing.{called-in-hands}
use Rattle.rb_shared_ring.proofs.SeatPassing.{put-query, queried}
use Rattle.rb_shared_ring.proofs.locked_calls.query_with.Goals as goal

pub with_state-requires-clause-step : goal.with_state-requires-clause-step
with_state-requires-clause-step g c answer out old new took called kept =
    put-query c.args.worker _ _ _ _ c.requires.idle took kept c.args.what answer (called-in-hands (LeavesHands (QueriesInChapter c.args.what answer)) _ _ _ _ called.shows called.leaves called.met)

pub returns : goal.returns
returns g c =
    let l = c.with_state.ensures.lent in
    let e = queried c.args.worker _ _ _ _ c.requires.idle l.took l.kept _ l.put c.args.what c.with_state.result (called-in-hands (LeavesHands (QueriesInChapter c.args.what c.with_state.result)) _ _ _ _ l.called.shows l.called.leaves l.called.met) in
    record {
      same = c.with_state.ensures.same;
      idle = e.idle;
      call = e.call;
      bytes = e.bytes;
      room = e.room;
      hands = e.hands_are;
      holds = e.holds;
      cut = e.cut;
    }
