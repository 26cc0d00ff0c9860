use Rattle.std.proofs.Common.{arith}
use Rattle.rb_service.proofs.Accepted.{accepted_for, accepted_more, none_accepted}
use Rattle.rb_service.proofs.programs.read_programs.Goals as goal

pub loop-at-init : goal.loop-at-init
loop-at-init g c = none_accepted c.bounds_of-bounds.result.ctx_len c.bounds_of-bounds.result.rings c.new-programs.result.items c.new-programs.ensures.items

pub loop-at-preserved : goal.loop-at-preserved
loop-at-preserved g c =
    accepted_more c.loop-at.at c.bounds_of-bounds.result.ctx_len c.bounds_of-bounds.result.rings c.loop-at.programs.items c.reserve.new.self.items c.push_reserved.new.self.items _ c.reserve.ensures.items c.push_reserved.ensures.items c.loop-at.invariant
    c.in-Ok-read_accepted.ensures

pub returns-clause-accepted : goal.returns-clause-accepted
returns-clause-accepted g c =
    accepted_for c.args.options.now c.loop-at.at c.bounds_of-bounds.result.ctx_len c.bounds_of-bounds.result.rings c.loop-at.programs.items (omega (arith, c.loop-at-test.false, c.len-at-end.ensures, c.args.options.now.programs.ok.0)) c.bounds_of-bounds.ensures.ctx_len
    c.bounds_of-bounds.ensures.rings c.loop-at.invariant
