use Rattle.std.proofs.Common.{arith, rules, get_or, subst, sym}
use Rattle.rb_jobs.specs.SeatHelpers.{IsAt}
use Rattle.rb_jobs.proofs.Lists.{zip_at, zip_length}
use Rattle.rb_stream_worker.proofs.TakenTurns.{found_next, later_next}
use Rattle.rb_stream_worker.proofs.looks.wait_for_all.Goals as goal

pub bounds-seats-at : goal.bounds-seats-at
bounds-seats-at g c = let lens = zip_length IsAt c.args.rings.now c.args.seats.now c.requires.at_rings in let kept = c.loop-at.auto.seats in let inside = c.loop-at-test.true in omega (arith, lens, kept, inside)

pub wait_for_room-requires : goal.wait_for_room-requires
wait_for_room-requires g c =
    let at = c.loop-at.at in
    let r = c.index-rings-at.result in
    let s = c.index-seats-at.result in
    let there = zip_at IsAt c.args.rings.now c.args.seats.now at r s c.requires.at_rings c.loop-at-test.true in
    record { at = subst (IsAt r) (sym (c.loop-at.invariant.later at s (omega arith))) (subst (λ y. IsAt y (get_or c.args.seats.now at s)) (sym c.index-rings-at.is) there) }

pub loop-at-preserved : goal.loop-at-preserved
loop-at-preserved g c = search (rules, found_next, later_next)

pub returns : goal.returns
returns g c =
    let kept = c.loop-at.auto.seats in
    let lens = zip_length IsAt c.args.rings.now c.args.seats.now c.requires.at_rings in
    let over = c.loop-at-test.false in
    record { found = (kept, λ k d b a below. c.loop-at.invariant.found k d b a (omega (arith, below, lens, over))) }
