use Rattle.std.proofs.Common.{◌<◌, sym, subst}
use Rattle.rb_chapter_ring.specs.TaggedRing.{TaggedRing}
use Rattle.rb_shared_ring.specs.inner.ChapterAnswers.{AuditsInChapter}
use Rattle.rb_shared_ring.specs.inner.HandCalls.{LeavesHands}
use Rattle.rb_shared_ring.proofs.HandPassing.{called-in-hands, worker-low}
use Rattle.rb_shared_ring.proofs.SeatPassing.{put-audit, audited}
use Rattle.rb_shared_ring.proofs.audit.audit_with.Goals as goal

pub with_state-requires-clause-callable : goal.with_state-requires-clause-callable
with_state-requires-clause-callable g c out old took p is =
    subst (λ (x : TaggedRing). c.args.worker < x.state.ring.chapter.opening.setup.workers) (sym is) (worker-low c.args.worker _ _ _ c.requires.idle took)

pub with_state-requires-clause-step : goal.with_state-requires-clause-step
with_state-requires-clause-step g c answer out old new took called kept =
    put-audit c.args.worker _ _ _ _ c.requires.idle took kept answer (called-in-hands (LeavesHands (AuditsInChapter c.args.worker answer)) _ _ _ _ called.shows called.leaves called.met)

pub returns : goal.returns
returns g c =
    let l = c.with_state.ensures.lent in
    let e = audited c.args.worker _ _ _ _ c.requires.idle l.took l.kept _ l.put c.with_state.result (called-in-hands (LeavesHands (AuditsInChapter c.args.worker c.with_state.result)) _ _ _ _ l.called.shows l.called.leaves l.called.met) in
    record {
      same = c.with_state.ensures.same;
      idle = e.idle;
      call = e.call;
      bytes = e.bytes;
      room = e.room;
      hands = e.hands_are;
      holds = e.holds;
      cut = e.cut;
    }
