use Rattle.std.proofs.Common.{rules}
use Rattle.rb_shared_ring.proofs.HandPassing.{out-there, hand-low, took-tagged}
use Rattle.rb_shared_ring.proofs.SeatPassing.{put-end, ended}
use Rattle.rb_shared_ring.proofs.LockedSteps.{kept-by-facts}
use Rattle.rb_shared_ring.proofs.locked_calls.settle_with.Goals as goal

pub settle-notice-requires : goal.settle-notice-requires
settle-notice-requires g c =
    let took = took-tagged _ _ _ _ c.as_mut-state.ensures.value c.take_out-held.ensures.took in
    record { out = out-there c.args.worker _ _ _ c.requires.idle took c.args.reservation.hand c.args.reservation.granted c.requires.mine c.requires.out }

pub put_back-requires-clause-step : goal.put_back-requires-clause-step
put_back-requires-clause-step g c =
    let took = took-tagged _ _ _ _ c.as_mut-state.ensures.value c.take_out-held.ensures.took in
    put-end c.args.worker _ _ _ _ c.requires.idle took (kept-by-facts c.settle-notice.new.self.state c.facts.ensures.kept c.facts.ensures.stands c.facts.ensures.bounded c.facts.ensures.hands) c.args.end c.args.reservation c.args.flags c.settle-notice.result c.requires.mine (c.settle-notice.ensures.ended, c.settle-notice.ensures.notice)

pub returns : goal.returns
returns g c =
    let took = took-tagged _ _ _ _ c.as_mut-state.ensures.value c.take_out-held.ensures.took in
    let low = hand-low c.args.worker _ _ _ c.requires.idle took c.args.reservation.hand _ c.requires.out in
    let e = ended c.args.worker _ _ _ _ c.requires.idle took (kept-by-facts c.settle-notice.new.self.state c.facts.ensures.kept c.facts.ensures.stands c.facts.ensures.bounded c.facts.ensures.hands) _ c.put_back.ensures.put c.args.end c.args.reservation c.args.flags c.settle-notice.result c.requires.mine low (c.settle-notice.ensures.ended, c.settle-notice.ensures.notice) in
    record {
      same = search rules;
      idle = e.idle;
      call = e.call;
      bytes = e.bytes;
      room = e.room;
      hands = e.hands_are;
      holds = e.holds;
      cut = e.cut;
    }
