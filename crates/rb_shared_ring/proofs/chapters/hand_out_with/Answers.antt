use Rattle.std.proofs.Common.{refl, sym, subst}
use Rattle.rb_chapter_ring.specs.ChapterCalls.{HandsOut}
use Rattle.rb_chapter_ring.specs.OpenedRing.{MayGoOnIn}
use Rattle.rb_ledger.specs.Roles.Role.{Consumer}
use Rattle.rb_chapter_ring.specs.TaggedRing.{TaggedRing}
use Rattle.rb_shared_ring.specs.inner.HandCalls.{LeavesHands}
use Rattle.rb_shared_ring.proofs.HandPassing.{called-in-hands, chapter-idle}
use Rattle.rb_shared_ring.proofs.ConsumerPassing.{put-next, handed-next, handed-fits, goes-on-in}
use Rattle.rb_shared_ring.proofs.TakerPassing.{put-taker, put-back-chapter, leaves-taker}
use Rattle.rb_shared_ring.proofs.chapters.hand_out_with.Goals as goal

pub with_state-requires-clause-callable : goal.with_state-requires-clause-callable
with_state-requires-clause-callable g c out old took p is =
    let q = c.requires in
    subst (λ (x : TaggedRing). MayGoOnIn x.state.ring c.args.empty) (sym is) (goes-on-in _ old.state.ring old.state.ring _ (chapter-idle Consumer _ _ _ q.idle took) took.chapters c.args.empty old.state.ring refl q.no_entries q.room q.workers q.next_number)

pub with_state-requires-clause-step : goal.with_state-requires-clause-step
with_state-requires-clause-step g c answer out old new took called kept =
    let did = called-in-hands (LeavesHands (λ x y. HandsOut x y answer)) _ _ _ _ called.shows called.leaves called.met in
    put-taker _ _ _ _ c.requires.idle took kept (put-next _ _ _ _ (chapter-idle Consumer _ _ _ c.requires.idle took) took.chapters answer did.0) did.1

pub returns : goal.returns
returns g c =
    let l = c.with_state.ensures.lent in
    let r = c.with_state.result in
    let did = called-in-hands (LeavesHands (λ x y. HandsOut x y r)) _ _ _ _ l.called.shows l.called.leaves l.called.met in
    let idle = chapter-idle Consumer _ l.old.state _ c.requires.idle l.took in
    let e = leaves-taker _ l.old.state l.new.state _ c.requires.idle l.took _ l.put _ _ _ (handed-next _ _ _ _ idle l.took.chapters r did.0 _ (put-back-chapter _ l.old.state l.new.state _ c.requires.idle l.took _ l.put)) in
    let fits = handed-fits _ _ _ _ idle l.took.chapters r did.0 in
    record { same = c.with_state.ensures.same; idle = e.idle; call = e.call; bytes = e.bytes; room = e.room; chapters = e.chapters; chapter_room = fits.0; chapter_workers = fits.1 }
