use Rattle.std.proofs.Common.{◌∙◌}
use Rattle.rb_ledger.specs.Roles.Role.{Consumer}
use Rattle.rb_shared_ring.proofs.HandPassing.{chapter-idle, took-tagged}
use Rattle.rb_shared_ring.proofs.ConsumerPassing.{put-takes, took-many}
use Rattle.rb_shared_ring.proofs.TakerPassing.{put-taker, put-back-chapter, leaves-taker}
use Rattle.rb_shared_ring.proofs.LockedSteps.{kept-by-facts}
use Rattle.rb_shared_ring.proofs.takes.take_many_with.Goals as goal

pub put_back-requires-clause-step : goal.put_back-requires-clause-step
put_back-requires-clause-step g c =
    let took = took-tagged _ _ _ _ c.as_mut-state.ensures.value c.take_out-held.ensures.took in
    let e = c.take_many-count.ensures in
    let kept = kept-by-facts c.take_many-count.new.self.state c.facts.ensures.kept c.facts.ensures.stands c.facts.ensures.bounded c.facts.ensures.hands in
    put-taker _ _ _ _ c.requires.idle took kept (put-takes _ _ _ _ (chapter-idle Consumer _ _ _ c.requires.idle took) took.chapters kept.kept c.args.n _ e.same_chapter e.takes) e.same_hands

pub returns : goal.returns
returns g c =
    let took = took-tagged _ _ _ _ c.as_mut-state.ensures.value c.take_out-held.ensures.took in
    let e = c.take_many-count.ensures in
    let put = c.put_back.ensures.put in
    let m = leaves-taker _ c.as_mut-state.result.now.state c.take_many-count.new.self.state _ c.requires.idle took _ put _ _ _ (took-many _ _ _ _ (chapter-idle Consumer _ c.as_mut-state.result.now.state _ c.requires.idle took) took.chapters (kept-by-facts c.take_many-count.new.self.state c.facts.ensures.kept c.facts.ensures.stands c.facts.ensures.bounded c.facts.ensures.hands).kept _ (put-back-chapter _ c.as_mut-state.result.now.state c.take_many-count.new.self.state _ c.requires.idle took _ put) c.args.n _ e.same_chapter e.takes) in
    let b = c.put_back.ensures.same in
    let t = c.take_out-held.ensures.same in
    record { same = (b.0 ∙ t.0, b.1 ∙ t.1, b.2 ∙ t.2); idle = m.idle; call = m.call; bytes = m.bytes; room = m.room; chapters = m.chapters; kept = e.kept; count = e.count; capacity = e.capacity }
