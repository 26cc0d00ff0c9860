use Rattle.rb_ledger.specs.Roles.Role.{Consumer}
use Rattle.rb_ledger.specs.inner.ChapterAnswers.{TakesInChapter}
use Rattle.rb_shared_ring.specs.inner.HandCalls.{LeavesHands}
use Rattle.rb_shared_ring.proofs.HandPassing.{called-in-hands, chapter-idle}
use Rattle.rb_shared_ring.proofs.ConsumerPassing.{put-take, took-one}
use Rattle.rb_shared_ring.proofs.TakerPassing.{put-taker, put-back-chapter, leaves-taker}
use Rattle.rb_shared_ring.proofs.takes.take_with.Goals as goal

pub with_state-requires-clause-step : goal.with_state-requires-clause-step
with_state-requires-clause-step g c answer out old new took called kept =
    let did = called-in-hands (LeavesHands (TakesInChapter answer)) _ _ _ _ called.shows called.leaves called.met in
    put-taker _ _ _ _ c.requires.idle took kept (put-take _ _ _ _ (chapter-idle Consumer _ _ _ c.requires.idle took) took.chapters kept.kept answer did.0) did.1

pub returns : goal.returns
returns g c =
    let l = c.with_state.ensures.lent in
    let did = called-in-hands (LeavesHands (TakesInChapter c.with_state.result)) _ _ _ _ l.called.shows l.called.leaves l.called.met in
    let e = leaves-taker _ l.old.state l.new.state _ c.requires.idle l.took _ l.put _ _ _ (took-one _ _ _ _ (chapter-idle Consumer _ l.old.state _ c.requires.idle l.took) l.took.chapters l.kept.kept _ (put-back-chapter _ l.old.state l.new.state _ c.requires.idle l.took _ l.put) c.with_state.result did.0) in
    record { same = c.with_state.ensures.same; idle = e.idle; call = e.call; bytes = e.bytes; room = e.room; chapters = e.chapters }
