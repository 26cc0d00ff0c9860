use Rattle.std.proofs.Common.{◌≡◌, ◌+◌, ◌-◌, ◌≤◌, length, sym, subst, arith}
use Rattle.rb_history.specs.TapeBytes.{AreItemsFrom}
use Rattle.rb_world.specs.TakenTapes.{taken_items}
use Rattle.heskavo_c.proofs.TapesLeft.{next_tape}
use Rattle.heskavo_c.proofs.run_tapes.tapes_of.Goals as goal

pub push_tape-requires-clause-follow : goal.push_tape-requires-clause-follow
push_tape-requires-clause-follow c = subst (λ t. AreItemsFrom c.args.size 0 (taken_items t)) (sym c.taken.ensures) (c.requires.follow c.loop-ring.ring c.loop-ring-test.true)

pub loop-ring-preserved : goal.loop-ring-preserved
loop-ring-preserved c =
    let longer : c.len.result - c.len-before.result ≡ length c.push_tape.new.bytes.items - length c.loop-ring.bytes.items = omega (arith, c.len.ensures, c.len-before.ensures) in
    let inside : c.loop-ring.ring + 1 ≤ length c.args.world.now.rings = omega (arith, c.loop-ring-test.true, c.requires.rings) in (
      inside,
      next_tape c.args.world.now c.args.size c.loop-ring.ring c.loop-ring.bytes.items c.push_tape.new.bytes.items c.loop-ring.lengths.items c.push.new.self.items c.taken.result.now
          (c.len.result - c.len-before.result) c.loop-ring.invariant.1 c.taken.ensures (c.requires.follow c.loop-ring.ring c.loop-ring-test.true) c.in_ok-push_tape.ensures.bytes longer c.in_ok-push.ensures.items
          (c.requires.drained c.loop-ring.ring c.loop-ring-test.true),
    )
