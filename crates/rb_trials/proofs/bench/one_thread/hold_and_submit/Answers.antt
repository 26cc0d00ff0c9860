use Rattle.rb_chapter_ring.proofs.Written.{written-in-hand}
use Rattle.rb_trials.proofs.bench.one_thread.hold_and_submit.Goals as goal

-- the granted record is out in the hand that it was granted into, and stays there when it is written
pub submit-requires : goal.submit-requires
submit-requires c =
    let r = c.in-Ok.reservation in
    record {
      out = written-in-hand c.reserve.new.self.state r.hand r.granted c.fill.new.self c.in-Ok.ensures.out;
    }
